-- The data bytes of a picture, packed from its cells.
use Rattle.std.specs.Prelude.{ℕ, zero, suc, ◌+◌, ◌-◌, ◌*◌, ◌/◌, ◌%◌, min, List, [], ◌∷◌, get_or, eqb}
use Rattle.text.specs.Place.{pick}
use Rattle.body.specs.Data.{row_bytes, bytes_of}

-- a cell as a bit: 1 for ink, which is 0
abbrev pub bit_at : List ℕ → ℕ → ℕ
bit_at cells c = pick (eqb (get_or cells c 255) 0) 1 0

-- n cells from cell c on as the bits of a number, the least first
abbrev pub bits : List ℕ → ℕ → ℕ → ℕ
bits cells c zero = 0
bits cells c (suc n) = bit_at cells c + 2 * bits cells (suc c) n

-- where data byte k of a picture w wide has its first cell, and how many it has: eight, or those left of the row
abbrev pub first_cell : ℕ → ℕ → ℕ
first_cell w k = k / row_bytes w * w + k % row_bytes w * 8

abbrev pub cells_in : ℕ → ℕ → ℕ
cells_in w k = min 8 (w - k % row_bytes w * 8)

-- data byte k: the bits past the row's end are 0
unfoldable pub packed_at : ℕ → List ℕ → ℕ → ℕ
packed_at w cells k = bits cells (first_cell w k) (cells_in w k)

-- n data bytes from byte k on
abbrev pub packed_from : ℕ → List ℕ → ℕ → ℕ → List ℕ
packed_from w cells k zero = []
packed_from w cells k (suc n) = packed_at w cells k ∷ packed_from w cells (suc k) n

-- all of a picture
abbrev pub packed : ℕ → ℕ → List ℕ → List ℕ
packed w h cells = packed_from w cells 0 (bytes_of w h)
