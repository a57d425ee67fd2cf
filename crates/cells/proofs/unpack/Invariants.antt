-- The cells below the index have their bits, and the bits from there on are left.
use Rattle.std.proofs.Common.{◌≡◌, ◌/◌, ◌^◌}
use Rattle.cells.specs.Stores.{dab}
use Rattle.cells.proofs.unpack.Given as goal

abbrev pub invariant-loop-cell : goal.invariant-loop-cell
invariant-loop-cell l = (l.cells ≡ dab 0 l.v l.cell-index l.initial.cells) × (l.bits ≡ l.v / 2 ^ l.cell-index)
