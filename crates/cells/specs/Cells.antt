-- The cell rule: what the data bytes that were read make of a lent pixel buffer.
use Rattle.std.specs.Prelude.{ℕ, zero, suc, ◌+◌, ◌*◌, ◌/◌, ◌%◌, ◌^◌, min, List, [], ◌∷◌, eqb}
use Rattle.std.proofs.Math.Option.{Option, none, some}
use Rattle.text.specs.Place.{pick}
use Rattle.body.specs.Data.{Log, row_bytes}

-- bit i, 0 the least, as a cell: 0 if it is set, else 255
abbrev pub ink : ℕ → ℕ → ℕ
ink b i = pick (eqb (b / 2 ^ i % 2) 1) 0 255

-- the data byte that cell c of a picture w wide takes its bit from
abbrev pub byte_for : ℕ → ℕ → ℕ
byte_for w c = c / w * row_bytes w + c % w / 8

-- the value of data byte k, if it was read
abbrev pub byte_at : Log → ℕ → Option ℕ
byte_at [] k = none
byte_at (x ∷ l) zero = some x.0
byte_at (x ∷ l) (suc k) = byte_at l k

-- from that byte if it was read, else as lent
abbrev pub inked : Option ℕ → ℕ → ℕ → ℕ
inked none i x = x
inked (some b) i x = ink b i

unfoldable pub cell : ℕ → Log → ℕ → ℕ → ℕ
cell w l c x = inked (byte_at l (byte_for w c)) (c % w % 8) x

-- all cells from cell c on
abbrev pub cells_from : ℕ → Log → ℕ → List ℕ → List ℕ
cells_from w l c [] = []
cells_from w l c (x ∷ lent) = cell w l c x ∷ cells_from w l (suc c) lent

unfoldable pub painted : ℕ → Log → List ℕ → List ℕ
painted w l lent = cells_from w l 0 lent

-- the data bytes of the whole rows of n cells, no more than a picture w wide and h high has
abbrev pub count : ℕ → ℕ → ℕ → ℕ
count w h n = row_bytes w * min (n / w) h
