-- What is rewritten ends in the output, and how much of a text decides it: what a program's buffers must have room for.
use Rattle.std.specs.Prelude.{◌≡◌, refl, ℕ, ◌≤◌, ◌<◌, Bool, true, false, List, [], ◌∷◌, length, take, drop, ℤ, eqb, leb}
use Rattle.std.proofs.Common.{ap, arith, length-set, length-append, lt-ltb, le-ltb, leb-true}
use Rattle.std.proofs.Math.Decide.{dec_lt}
use Rattle.std.proofs.Math.Option.{Option}
use Rattle.text.specs.Place.{pick}
use Rattle.text.specs.Outcome.{Outcome, accepted, refused, unplaced}
use Rattle.lexical.specs.Token.{overlay}
use Rattle.header.specs.Header.{Head}
use Rattle.image.specs.Reading.{Reading}
use Rattle.image.specs.Limited.{within}
use Rattle.image.proofs.Limited.{within-beginning}
use Rattle.print.specs.Output.{Output, output, put, puts}
use Rattle.writer.specs.Written.{written}
use Rattle.writer.specs.Writing.{wrong, stored, refusal, writing}
use Rattle.rewriting.specs.Rewriting.{written_in, writing_in, rewrite_of, rewriting}

-- the next byte goes no further than the end
abbrev Inside : Output → Type 0
Inside o = o.at ≤ length o.bytes

put-inside : (b : ℕ) (o : Output) → Inside o → Inside (put b o)
unfolding put
put-inside b o h = go (dec_lt o.at (length o.bytes))
  where
    go : Dec (o.at < length o.bytes) → Inside (put b o)
    go (yes l) = rw (lt-ltb o.at (length o.bytes) l) (omega (arith, length-set o.bytes o.at b))
    go (no l) = rw (le-ltb o.at (length o.bytes) (omega arith)) h

puts-inside : (w : List ℕ) (o : Output) → Inside o → Inside (puts w o)
unfolding puts
puts-inside [] o h = h
puts-inside (b ∷ w) o h = puts-inside w (put b o) (put-inside b o h)

line-inside : (w out : List ℕ) → Inside (puts w (output out 0))
line-inside w out = puts-inside w (output out 0) (omega arith)

stored-inside : (text out : List ℕ) → Inside (writing_in (stored text out))
stored-inside text out = go (leb (length text) (length out)) refl
  where
    go : (t : Bool) → leb (length text) (length out) ≡ t → Inside (written_in (pick t (accepted (length text)) (unplaced 55)) (pick t (overlay text out) out))
    go true e = omega (arith, leb-true (length text) (length out) e, length-append text (drop (length text) out))
    go false e = line-inside _ out

writing-inside : (name : List ℕ) (w h : ℕ) (hot : Option (ℤ × ℤ)) (cells out : List ℕ) → Inside (writing_in (writing name w h hot cells out))
unfolding writing
writing-inside name w h hot cells out = go (eqb (wrong name w h cells) 0)
  where
    go : (t : Bool) → Inside (writing_in (pick t (stored (written name w h hot cells) out) (refusal (wrong name w h cells) out)))
    go true = stored-inside (written name w h hot cells) out
    go false = line-inside _ out

answer-inside : (a : Outcome Head) (cells out : List ℕ) → Inside (rewrite_of a cells out)
answer-inside (accepted h) cells out = writing-inside h.name h.width h.height h.hot _ out
answer-inside (refused c p) cells out = line-inside _ out
answer-inside (unplaced c) cells out = line-inside _ out

pub rewriting-inside : (bytes most : ℕ) (text name cells out : List ℕ) → (rewriting bytes most text name cells out).at ≤ length (rewriting bytes most text name cells out).bytes
unfolding rewriting
rewriting-inside bytes most text name cells out = answer-inside (within bytes most text name cells).answer (within bytes most text name cells).pixels out

-- the first n bytes of a text are rewritten as the text is, if n is above the limit
pub rewriting-beginning : (bytes most : ℕ) (text name cells out : List ℕ) (n : ℕ) → bytes < n → rewriting bytes most (take n text) name cells out ≡ rewriting bytes most text name cells out
unfolding rewriting
rewriting-beginning bytes most text name cells out n h = ap (λ (x : Reading). rewrite_of x.answer x.pixels out) (within-beginning bytes most text name cells n h)
