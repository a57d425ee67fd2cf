-- THE CLAIMS ON THE WRITER: what it refuses, what it writes, and that what is written is read again as it was. To believe them, read the grammar, the
-- reading, `writing` (what the writer's contract cites), Terms (the words used here), the records of specs/RoundTrip and the
-- statements of this file. Every proof below is a citation.
use Rattle.std.specs.Prelude.{◌≡◌, ℕ, ◌*◌, ◌≤◌, ◌<◌, List, length, take, ℤ}
use Rattle.std.proofs.Math.Option.{Option}
use Rattle.text.specs.Outcome.{accepted}
use Rattle.header.specs.Header.{Head}
use Rattle.image.specs.Reading.{reading}
use Rattle.writer.specs.Written.{written}
use Rattle.writer.specs.Writing.{writing}
use Rattle.program.specs.Program.{Holds}
use Rattle.rewriting.specs.Rewriting.{rewriting}
use Rattle.rewriting.specs.Program.{RewritesInput}
use Rattle.grammar.specs.Grammar.{Mask, Format}
use Rattle.claims.specs.Terms.{head_of, Fitting}
use Rattle.claims.specs.Written.{Hots}
use Rattle.round_trip.specs.Terms.{mask_of, Taken, Back, picture_of, text_of, Layout, Padded}
use Rattle.round_trip.proofs.Answers as Answer
use Rattle.round_trip.proofs.Back as Reads
use Rattle.round_trip.proofs.LaidOut
use Rattle.round_trip.proofs.OneText
use Rattle.round_trip.proofs.SameAgain
use Rattle.round_trip.proofs.Rewritten as Rewrite
use Rattle.round_trip.specs.RoundTrip.{Answers, Again, Rewritten, Leaves}

-- 1. ANSWERS. Of everything that can be lent.
pub answers : (name : List ℕ) (w h : ℕ) (hot : Option (ℤ × ℤ)) (cells out : List ℕ)
    → Answers name w h hot cells out (writing name w h hot cells out)
answers name w h hot cells out = record {
  bad-name = λ b. Answer.refused-so name w h hot cells out 50 (Answer.wrong_name name w h cells b);
  zero-side = λ g s. Answer.refused-so name w h hot cells out 51 (Answer.wrong-side name w h cells g s);
  wrong-count = λ g a b n. Answer.refused-so name w h hot cells out 52 (Answer.wrong_size name w h cells g a b n);
  bad-cell = λ g a b e c. Answer.refused-so name w h hot cells out 53 (Answer.wrong-cell name w h cells g a b e c);
  no_room = Answer.no_room name w h hot cells out;
  text = Answer.room name w h hot cells out;
  cases = Answer.cases name w h cells;
}

-- 2. WRITES. What the writer takes is written as a text of the format that means the same name, sides and hotspot, with the packed cells.
-- Sides and coordinates are of 32 bits, as the call's types have them (Hots: x and y from -2,147,483,648 to 2,147,483,647).
pub writes : (name : List ℕ) (w h : ℕ) (hot : Option (ℤ × ℤ)) (cells : List ℕ) (limit : ℕ)
    → 256 ≤ limit → Taken name w h cells → w < 4294967296 → h < 4294967296 → Hots hot
    → Format limit (mask_of name w h hot cells) (written name w h hot cells)
writes name w h hot cells limit l t a b r = Reads.writes name w h hot cells t a b r limit l

-- 3. COMES BACK. Where the writer answers n: the first n bytes of the output, read with any name buffer of 256 bytes or more and as many cells
-- as the mask has, are accepted with the same name, sides and hotspot, and leave the same cells.
pub comes_back : (name : List ℕ) (w h : ℕ) (hot : Option (ℤ × ℤ)) (cells out : List ℕ) (n : ℕ)
    → w < 4294967296 → h < 4294967296 → Hots hot → (writing name w h hot cells out).answer ≡ accepted n
    → (names lent : List ℕ) → 256 ≤ length names → length lent ≡ w * h
    → Back name w h hot cells (reading (take n (writing name w h hot cells out).bytes) names lent)
comes_back = Reads.comes_back

-- 4. REWRITES. What is accepted with a name buffer of at most 256 bytes is a mask that the writer takes.
pub rewrites : (text names lent out : List ℕ) (h : Head) → length names ≤ 256 → (reading text names lent).answer ≡ accepted h
    → Again h (picture_of h (reading text names lent)) out
rewrites text names lent out h l q =
    let k : Reads.Kept h (picture_of h (reading text names lent)) = Reads.kept text names lent h l q in
    record {
      taken = k.taken;
      answer = λ r. (Answer.room h.name h.width h.height h.hot _ out k.taken r).0;
      back = λ n e. Reads.comes_back h.name h.width h.height h.hot _ out n k.narrow k.low k.range e;
    }

-- 5. LAYOUT. What is written is in document 02's layout, which Terms tells in other words (lines of twelve bytes), and its padding bits are 0.
pub lays-out : (name : List ℕ) (w h : ℕ) (hot : Option (ℤ × ℤ)) (cells : List ℕ)
    → Taken name w h cells → w < 4294967296 → h < 4294967296 → Hots hot
    → Layout (mask_of name w h hot cells) (written name w h hot cells) × Padded (mask_of name w h hot cells)
lays-out name w h hot cells t a b r = (LaidOut.laid_out name w h hot cells t.wide t.high a b r, LaidOut.padded name w h hot cells)

-- Of a mask there is one text at most in this layout;
pub one-text : (m : Mask) (t u : List ℕ) → Layout m t → Layout m u → t ≡ u
one-text = OneText.one-text

-- so that any text in it, with padding bits 0, comes back byte for byte.
pub same-again : (text names lent : List ℕ) (m : Mask) → Format (length names) m text → Fitting m lent → Layout m text → Padded m
    → text_of (head_of m) (picture_of (head_of m) (reading text names lent)) ≡ text
same-again = SameAgain.same-again

-- 6. REWRITTEN. What the rewriting program's output holds of any input, read with a name buffer of 256 bytes at most and 65,536 cells or more.
pub rewritten : (input name cells out : List ℕ) → length name ≤ 256 → 65536 ≤ length cells → 411140 ≤ length out
    → Rewritten input name cells out (rewriting 65536 65536 input name cells out)
rewritten input name cells out n c r = record {
  text = λ h q. Rewrite.writes-whole input name cells out r h q n c;
  back = λ h q. Rewrite.reads-back h _ (Rewrite.known input name cells h q n c) (Rewrite.small-picture input name cells h q n c);
  lists = λ h q. Rewrite.lists-alike input name cells h q n c;
  twice = λ h q s name' cells' out' a b d.
      Rewrite.rewrites-again h _ (Rewrite.known input name cells h q n c) (Rewrite.small-picture input name cells h q n c) s name' cells' a b out' d;
  refusal = Rewrite.prints-refusal input name cells out r;
}

-- 7. LEAVES. Of what the program's call leaves.
pub leaves : (text : List ℕ) (n : ℕ) (name cells out name' cells' out' : List ℕ) (r : ℕ) → RewritesInput text n name cells out name' cells' out' r
    → (input : List ℕ) → Holds text n input → Leaves input name cells out out' r
leaves text n name cells out name' cells' out' r c input e = record {
  text = λ h q. (Rewrite.text-printed text n name cells out name' cells' out' r c input e h q).0;
  refusal = λ f. (Rewrite.refusal-printed text n name cells out name' cells' out' r c input e f).0;
  others = Rewrite.others-kept text n name cells out name' cells' out' r c input e;
}
