-- What each turn of the loops in `read_rows` keeps.
use Prim.Native.Nat.{◌+◌, ◌*◌}
use Rattle.rows.proofs.Going.{Going}
use Rattle.rows.proofs.read_rows.Given as goal

abbrev pub invariant-loop-y : goal.invariant-loop-y
invariant-loop-y l = Going l.w l.h l.fn.r l.fn.pixels l.pixels l.r l.first (l.y * l.across)

abbrev pub invariant-loop-j : goal.invariant-loop-j
invariant-loop-j l = Going l.w l.h l.fn.r l.fn.pixels l.pixels l.r l.first (l.y * l.across + l.j)
