-- What each turn of the loop in `line_end` keeps.
use Prim.Native.Nat.{◌+◌}
use mathlib.Core.Path.{◌≡◌}
use lib.ListN.{length, drop}
use Rattle.leading.specs.Line.{line_of}
use Rattle.leading.proofs.line_end.Given as goal

abbrev pub invariant-loop-i : goal.invariant-loop-i
invariant-loop-i l = l.i + length (line_of (drop l.i l.text)) ≡ l.from + length (line_of (drop l.from l.text))
