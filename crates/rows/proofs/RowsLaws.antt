-- The theorems about what specs/Rows.antt defines.
use Rattle.std.specs.Prelude.{ℕ, ◌/◌, List, Bool, true, false, eqb, ltb}
use Rattle.text.specs.Reader.{Local}
use Rattle.text.proofs.Reader.{bind-local}
use Rattle.lexical.proofs.Lexical.{locals}
use Rattle.body.proofs.Data.{item-local, items-local, trailer-local}
use Rattle.cells.specs.Cells.{count}
use Rattle.rows.specs.Rows.{ending, whole}

pub ending-local : (e few first : Bool) (l : List ℕ) → Local (ending e few first l)
ending-local true few first l = search (trailer-local, locals)
ending-local false true first l = search (item-local, locals)
ending-local false false first l = search (trailer-local, locals)

pub whole-local : (w h n : ℕ) → Local (whole w h n)
unfolding whole
whole-local w h n = bind-local (items-local (count w h n) true) (ending-local (eqb (n / w) h) (ltb (n / w) h) (eqb (count w h n) 0))
