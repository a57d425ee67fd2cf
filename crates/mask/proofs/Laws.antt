-- What a step of the code says of a mask's sides and cells.
use Rattle.std.specs.Prelude.{◌≡◌, refl, ℕ, Bool, true, false, ◌&&◌, List, [], ◌∷◌}
use Rattle.std.specs.List.{list_all}
use Rattle.std.proofs.Common.{◌∙◌}
use Rattle.text.specs.Place.{pick}
use Rattle.mask.specs.Fault.{is_cell, all_cells}

-- what the code tests
pub cells_tested : (l : List ℕ) {t : Bool} → t ≡ list_all is_cell l → t ≡ all_cells l
cells_tested l e = e ∙ same l
  where
    step : (t a b : Bool) → a ≡ b → (t && a) ≡ pick t b false
    step true a b e = e
    step false a b e = refl

    same : (l : List ℕ) → list_all is_cell l ≡ all_cells l
    same [] = refl
    same (x ∷ l) = step (is_cell x) (list_all is_cell l) (all_cells l) (same l)
