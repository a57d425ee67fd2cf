-- The stores of one data byte, as the code makes them.
use Rattle.std.specs.Prelude.{ℕ, zero, suc, ◌+◌, ◌-◌, ◌*◌, ◌/◌, ◌%◌, min, List, length, set, eqb, ltb}
use Rattle.text.specs.Place.{pick}
use Rattle.body.specs.Data.{row_bytes}
use Rattle.cells.specs.Cells.{ink}

-- n cells from `start` on take the bits of b, the least first
abbrev pub dab : ℕ → ℕ → ℕ → List ℕ → List ℕ
dab start b zero p = p
dab start b (suc n) p = set (dab start b n p) (start + n) (ink b n)

-- each cell takes its bit of b, the least first
abbrev pub unpacked : ℕ → List ℕ → List ℕ
unpacked b p = dab 0 b (length p) p

-- the cells of data byte k of a picture w wide, in row k / row_bytes w, if the buffer has that row whole
unfoldable pub byte_stored : ℕ → ℕ → ℕ → List ℕ → List ℕ
byte_stored w k b p =
    pick (eqb w 0) p
    (pick (ltb (k / row_bytes w) (length p / w)) (dab (k / row_bytes w * w + k % row_bytes w * 8) b (min 8 (w - k % row_bytes w * 8)) p) p)
