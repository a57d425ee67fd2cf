-- What `xbm_write` answers in numbers, and the output after it.
use Rattle.std.specs.Prelude.{◌≡◌, ℕ, List, ℤ}
use Rattle.text.specs.Outcome.{Outcome, accepted, refused, unplaced, outcome_number}
use Rattle.report.specs.Report.{hot_given}
use Rattle.writer.specs.Writing.{Writing, writing}

-- 0, or the refusal's number
abbrev pub write_number : Outcome ℕ → ℕ
write_number a = outcome_number a

-- the text's length, or 0 of a refusal
abbrev pub write_length : Outcome ℕ → ℕ
write_length (accepted n) = n
write_length (refused c p) = 0
write_length (unplaced c) = 0

-- what is written of a mask, its hotspot as C gives it
abbrev pub writing_given : List ℕ → ℕ → ℕ → ℕ → ℤ → ℤ → List ℕ → List ℕ → Writing
writing_given name w h has x y cells out = writing name w h (hot_given has x y) cells out

-- writing a mask: the result, the length told, and the later output
pub record WriteCall (name : List ℕ) (w h has : ℕ) (x y : ℤ) (cells out out' : List ℕ) (length' r : ℕ) : Type 0 where
  pub number : r ≡ write_number (writing_given name w h has x y cells out).answer
  pub length : length' ≡ write_length (writing_given name w h has x y cells out).answer
  pub bytes : out' ≡ (writing_given name w h has x y cells out).bytes
