-- A quick answer, which is right where it is one.
use Rattle.std.specs.Prelude.{ℕ, ◌≡◌, Option, Some, None}
use Rattle.text.specs.declared.TextReader.{TextReader}
use Rattle.text.specs.Reader.{ok, Reader}

-- the reader old looked at for p: a hit is what p gives, of the same text, with new where p ends; a miss leaves the reader as it was
pub record Meets (p : Reader ℕ) (old new : TextReader) (r : Option ℕ) : Type 0 where
  pub kept : new.text ≡ old.text
  pub hit : (v : ℕ) → r ≡ Some v → ok v new.location ≡ p old.text.now old.location
  pub miss : r ≡ None → new ≡ old
