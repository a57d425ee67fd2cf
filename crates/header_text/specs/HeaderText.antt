-- The text of a mask's header: document 02's layout of its lines, up to the brace.
use Rattle.std.specs.Prelude.{ℕ, List, [], ◌∷◌, ℤ}
use Rattle.std.proofs.Math.Option.{Option, none, some}
use Rattle.text.specs.Ascii.{ascii}
use Rattle.print.specs.Output.{joined}
use Rattle.print.specs.Decimal.{decimal, signed}

-- a define line with single spaces: up to its number, and the whole
abbrev pub start_text : List ℕ → List ℕ → List ℕ
start_text name ending = joined (ascii "#define " ∷ name ∷ ending ∷ ascii " " ∷ [])

abbrev pub define_text : List ℕ → List ℕ → List ℕ → List ℕ
define_text name ending n = joined (start_text name ending ∷ n ∷ ascii "\n" ∷ [])

-- the lines of a hotspot, if there is one
abbrev pub spot_text : List ℕ → Option (ℤ × ℤ) → List ℕ
spot_text name none = []
spot_text name (some (x, y)) = joined (define_text name (ascii "_x_hot") (signed x) ∷ define_text name (ascii "_y_hot") (signed y) ∷ [])

-- the array line, up to its brace
abbrev pub array_text : List ℕ → List ℕ
array_text name = joined (ascii "static unsigned char " ∷ name ∷ ascii "_bits[] = {" ∷ [])

-- all lines
unfoldable pub head_text : List ℕ → ℕ → ℕ → Option (ℤ × ℤ) → List ℕ
head_text name w h hot =
    joined (define_text name (ascii "_width") (decimal w) ∷ define_text name (ascii "_height") (decimal h) ∷ spot_text name hot ∷ array_text name ∷ [])
