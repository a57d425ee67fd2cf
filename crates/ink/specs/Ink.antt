-- The ink of cells: how many are 0.
use Rattle.std.specs.Prelude.{ℕ, ◌+◌, List, [], ◌∷◌, eqb}
use Rattle.text.specs.Place.{pick}

abbrev pub ink_at : ℕ → ℕ
ink_at x = pick (eqb x 0) 1 0

abbrev pub ink_of : List ℕ → ℕ
ink_of [] = 0
ink_of (x ∷ l) = ink_at x + ink_of l
