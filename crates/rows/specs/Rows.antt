-- The rows of a picture, read into a buffer of n cells.
use Rattle.std.specs.Prelude.{ℕ, ◌/◌, ◌≡◌, List, Bool, true, false, length, eqb, ltb, Result as Answer}
use Rattle.std.proofs.Math.Option.{none}
use Rattle.text.specs.declared.TextReader.{TextReader}
use Rattle.text.specs.Reader.{Reader, ◌>>=◌, ◌>>◌}
use Rattle.text.specs.Leaf.{give, need}
use Rattle.lexical.specs.Reads.{Gives}
use Rattle.error.specs.declared.ImageError.{ImageError}
use Rattle.error.specs.Error.{image_tells}
use Rattle.body.specs.Data.{item, items, trailer, log_of}
use Rattle.cells.specs.Cells.{painted, count}

-- the buffer's whole rows are not the picture's
abbrev pub mismatch : Reader (List ℕ)
mismatch = need 31 none

-- what follows the data bytes l of the buffer's whole rows: as many rows as the picture has;
-- too few, and the next data byte is read first; too many, and the trailer is
abbrev pub ending : Bool → Bool → Bool → List ℕ → Reader (List ℕ)
ending true few first l = trailer >> give l
ending false true first l = item first >> mismatch
ending false false first l = trailer >> mismatch

-- a picture's data bytes, read with its trailer
unfoldable pub whole : ℕ → ℕ → ℕ → Reader (List ℕ)
whole w h n = items (count w h n) true >>= ending (eqb (n / w) h) (ltb (n / w) h) (eqb (count w h n) 0)

-- ---- what the code answers

-- reading the rows of a picture w wide and h high with the reader old: the answer, where new stands, and what the buffer holds later
pub record Filled (w h : ℕ) (old new : TextReader) (lent later : List ℕ) (r : Answer (Unit {0}) (ImageError (Unit {0}))) : Type 0 where
  pub reads : Gives image_tells (whole w h (length lent) >> give tt) old new r
  pub stored : later ≡ painted w (log_of (count w h (length lent)) true old.text.now old.location) lent
