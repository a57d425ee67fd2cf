-- What can be printed: numbers of 64 bits, coordinates of 32.
use Rattle.std.specs.Prelude.{◌^◌, ◌<◌, ℤ, pos, negsuc}
use Rattle.std.proofs.Math.Option.{Option, none, some}
use Rattle.text.specs.Outcome.{Outcome, accepted, refused, unplaced}
use Rattle.header.specs.Header.{Head}

-- a coordinate's range, as numbers
abbrev pub InRange : ℤ → Type 0
InRange (pos n) = n < 2147483648
InRange (negsuc n) = n < 2147483648

-- numbers that can be printed
abbrev pub Hots : Option (ℤ × ℤ) → Type 0
Hots none = Unit {0}
Hots (some (x, y)) = InRange x × InRange y

abbrev pub Printable : Outcome Head → Type 0
Printable (accepted h) = (h.width < 2 ^ 64) × (h.height < 2 ^ 64) × Hots h.hot
Printable (refused c p) = (c < 2 ^ 64) × (p.byte.0 < 2 ^ 64) × (p.line.0 < 2 ^ 64) × (p.column.0 < 2 ^ 64) × (p.start.0 < 2 ^ 64)
Printable (unplaced c) = c < 2 ^ 64
