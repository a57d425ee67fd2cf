-- A line, up to its newline.
use Rattle.std.specs.Prelude.{ℕ, List, [], ◌∷◌, Bool, true, false, eqb}
use Rattle.text.specs.Place.{pick}
use Rattle.text.specs.Reader.{Reader, ◌>>◌}
use Rattle.lexical.specs.Lexical.{skip, byte, is}

-- the bytes before the first newline
abbrev pub line_of : List ℕ → List ℕ
line_of [] = []
line_of (b ∷ l) = pick (eqb b 10) [] (b ∷ line_of l)

-- any byte but a newline
unfoldable pub in_line : ℕ → Bool
in_line b = pick (eqb b 10) false true

-- the rest of a line, with its newline
unfoldable pub line_rest : ℕ → Reader (Unit {0})
line_rest c = skip in_line >> byte c (is 10)
