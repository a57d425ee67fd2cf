-- A mask in memory, its sides and its cells: what is wrong with it, by document 02's numbers.
use Rattle.std.specs.Prelude.{Result, Ok, Err, ℕ, ◌*◌, Bool, true, false, List, [], ◌∷◌, length, eqb}
use Rattle.text.specs.Place.{pick}
use Rattle.mask.specs.declared.MaskError.{MaskError}
use Rattle.mask.specs.declared.MaskError.TheVariants.{ZeroSide, CellCount, CellValue}

-- a cell: 0 is ink, 255 is none
abbrev pub is_cell : ℕ → Bool
is_cell x = pick (eqb x 0) true (eqb x 255)

abbrev pub all_cells : List ℕ → Bool
all_cells [] = true
all_cells (x ∷ l) = pick (is_cell x) (all_cells l) false

-- 52 a zero side, 53 cells not width times height, 54 a cell neither 0 nor 255, in this order; 0 where nothing is wrong
unfoldable pub fault : ℕ → ℕ → List ℕ → ℕ
fault w h cells = pick (eqb w 0) 52 (pick (eqb h 0) 52 (pick (eqb (length cells) (w * h)) (pick (all_cells cells) 0 54) 53))

-- ---- what the code answers

abbrev pub error_number : MaskError → ℕ
error_number ZeroSide = 52
error_number CellCount = 53
error_number CellValue = 54

abbrev pub told_fault : Result Unit MaskError → ℕ
told_fault (Ok _) = 0
told_fault (Err e) = error_number e
