-- What each turn of the loop in `read_digits` keeps.
use Prim.Native.Nat.{◌≤◌}
use mathlib.Core.Path.{◌≡◌}
use lib.ListN.{drop}
use Rattle.integer.specs.Decimal.{digits_from}
use Rattle.integer.proofs.read_digits.Given as goal

abbrev pub invariant-loop-d : goal.invariant-loop-d
invariant-loop-d l = (l.x ≤ 4294967296) × (digits_from l.x (drop l.d-index l.«data») ≡ digits_from 0 l.«data»)
