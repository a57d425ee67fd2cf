-- The hotspot's lines as the code reads them, and what its answers tell.
use Rattle.std.specs.Prelude.{ℕ, ◌+◌, ◌*◌, List, ℤ}
use Rattle.text.specs.Ascii.{ascii}
use Rattle.text.specs.Reader.{Reader, ◌>>=◌}
use Rattle.text.specs.Leaf.{give}
use Rattle.lines.specs.Lines.{signed, define_line}

-- a define line whose symbol is known: the coordinate that its token is
unfoldable pub coordinate_line : ℕ → List ℕ → List ℕ → Reader ℤ
coordinate_line c name z = define_line c name z >>= signed (100 + 10 * c)

-- the hotspot's two lines
unfoldable pub spot : List ℕ → Reader (ℤ × ℤ)
spot name = coordinate_line 3 name (ascii "_x_hot") >>= λ x. coordinate_line 4 name (ascii "_y_hot") >>= λ y. give (x, y)
