-- What the claims on the writer say, where it takes a record. The claims stand in proofs/RoundTrip, where also stands what to read to believe them.
use Rattle.std.specs.Prelude.{◌≡◌, ◌⊎◌, ℕ, ◌*◌, ◌≤◌, ◌<◌, List, ◌++◌, length, take, drop, ℤ}
use Rattle.std.proofs.Math.Option.{Option}
use Rattle.text.specs.Outcome.{accepted, unplaced}
use Rattle.header.specs.Header.{Head}
use Rattle.image.specs.Reading.{reading}
use Rattle.print.specs.Output.{Output}
use Rattle.listing.specs.Listing.{listed, listing}
use Rattle.writer.specs.Written.{written}
use Rattle.writer.specs.Writing.{Writing, writing}
use Rattle.rewriting.specs.Rewriting.{rewriting}
use Rattle.round_trip.specs.Terms.{BadName, BadCell, Taken, Back, text_of, at_start}

-- 1. ANSWERS. Of everything that can be lent: each number is answered where its condition is the first to arise, and the output is then as lent;
-- else the whole text stands at the output's start, its length is answered, and what follows it is as lent.
pub record Answers (name : List ℕ) (w h : ℕ) (hot : Option (ℤ × ℤ)) (cells out : List ℕ) (later : Writing) : Type 0 where
  pub bad-name : BadName name → (later.answer ≡ unplaced 51) × (later.bytes ≡ out)
  pub zero-side : (BadName name → ⊥) → (w ≡ 0) ⊎ (h ≡ 0) → (later.answer ≡ unplaced 52) × (later.bytes ≡ out)
  pub wrong-count : (BadName name → ⊥) → 0 < w → 0 < h → (length cells ≡ w * h → ⊥)
      → (later.answer ≡ unplaced 53) × (later.bytes ≡ out)
  pub bad-cell : (BadName name → ⊥) → 0 < w → 0 < h → length cells ≡ w * h → BadCell cells
      → (later.answer ≡ unplaced 54) × (later.bytes ≡ out)
  pub no_room : Taken name w h cells → length out < length (written name w h hot cells)
      → (later.answer ≡ unplaced 55) × (later.bytes ≡ out)
  pub text : Taken name w h cells → length (written name w h hot cells) ≤ length out
      → (later.answer ≡ accepted (length (written name w h hot cells)))
      × (later.bytes ≡ written name w h hot cells ++ drop (length (written name w h hot cells)) out)
  -- there is no other case
  pub cases : BadName name
      ⊎ (((BadName name → ⊥) × ((w ≡ 0) ⊎ (h ≡ 0)))
      ⊎ (((BadName name → ⊥) × (0 < w) × (0 < h) × (length cells ≡ w * h → ⊥))
      ⊎ (((BadName name → ⊥) × (0 < w) × (0 < h) × (length cells ≡ w * h) × BadCell cells)
      ⊎ Taken name w h cells)))

-- 4. REWRITES. What is accepted with a name buffer of at most 256 bytes is a mask that the writer takes, so that only 55 can be answered of it;
-- where there is room it is written, and comes back.
pub record Again (h : Head) (cells out : List ℕ) : Type 0 where
  pub taken : Taken h.name h.width h.height cells
  pub answer : length (written h.name h.width h.height h.hot cells) ≤ length out
      → (writing h.name h.width h.height h.hot cells out).answer ≡ accepted (length (written h.name h.width h.height h.hot cells))
  pub back : (n : ℕ) → (writing h.name h.width h.height h.hot cells out).answer ≡ accepted n
      → (names lent : List ℕ) → 256 ≤ length names → length lent ≡ h.width * h.height
      → Back h.name h.width h.height h.hot cells
      (reading (take n (writing h.name h.width h.height h.hot cells out).bytes) names lent)

-- 6. REWRITTEN. What the rewriting program's output holds of any input, read with a name buffer of 256 bytes at most and 65,536 cells or more.
pub record Rewritten (input name cells out : List ℕ) (later : Output) : Type 0 where
  -- a mask that the listing accepts: its whole text at the output's start; what follows it is as lent
  pub text : (h : Head) → (listed input name cells).told ≡ accepted h
      → later ≡ at_start (text_of h (take (h.width * h.height) (listed input name cells).cells)) out
  -- and that is read as the same mask
  pub back : (h : Head) → (listed input name cells).told ≡ accepted h
      → (names lent : List ℕ) → 256 ≤ length names → length lent ≡ h.width * h.height
      → Back h.name h.width h.height h.hot (take (h.width * h.height) (listed input name cells).cells)
      (reading (text_of h (take (h.width * h.height) (listed input name cells).cells)) names lent)
  -- where it has no more bytes than the program reads, it is listed as the input is, and rewritten as it stands
  pub lists : (h : Head) → (listed input name cells).told ≡ accepted h
      → length (text_of h (take (h.width * h.height) (listed input name cells).cells)) ≤ 65536
      → (name' cells' : List ℕ) → length name' ≡ 256 → 65536 ≤ length cells'
      → listing (text_of h (take (h.width * h.height) (listed input name cells).cells)) name' cells' ≡ listing input name cells
  pub twice : (h : Head) → (listed input name cells).told ≡ accepted h
      → length (text_of h (take (h.width * h.height) (listed input name cells).cells)) ≤ 65536
      → (name' cells' out' : List ℕ) → length name' ≡ 256 → 65536 ≤ length cells' → 411140 ≤ length out'
      → rewriting 65536 65536 (text_of h (take (h.width * h.height) (listed input name cells).cells)) name' cells' out'
      ≡ at_start (text_of h (take (h.width * h.height) (listed input name cells).cells)) out'
  -- any other input: the line that the listing prints
  pub refusal : ((h : Head) → (listed input name cells).told ≡ accepted h → ⊥) → later ≡ at_start (listing input name cells) out

-- 7. LEAVES. So of what the program's call leaves, the first r bytes of the output are the whole text of a mask that the listing accepts, and else
-- the listing's line; the others are as lent.
pub record Leaves (input name cells out out' : List ℕ) (r : ℕ) : Type 0 where
  pub text : (h : Head) → (listed input name cells).told ≡ accepted h
      → take r out' ≡ text_of h (take (h.width * h.height) (listed input name cells).cells)
  pub refusal : ((h : Head) → (listed input name cells).told ≡ accepted h → ⊥) → take r out' ≡ listing input name cells
  pub others : drop r out' ≡ drop r out
