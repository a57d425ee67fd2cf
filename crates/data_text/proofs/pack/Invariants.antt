-- What each turn of the loop in `pack` keeps: the cells from cell i on are packed.
use Rattle.std.specs.Prelude.{◌≡◌, ◌+◌, ◌-◌}
use Rattle.data_text.specs.Packed.{bits}
use Rattle.data_text.proofs.pack.Given as goal

abbrev pub invariant-loop-i : goal.invariant-loop-i
invariant-loop-i l = l.v ≡ bits l.cells (l.start + l.i) (l.n - l.i)
