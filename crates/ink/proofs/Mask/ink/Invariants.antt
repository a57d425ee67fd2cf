-- What each turn of the loop in `Mask::ink` keeps: the cells before it are counted.
use Rattle.ink.proofs.Ink.{Counting}
use Rattle.ink.proofs.Mask.ink.Given as goal

abbrev pub invariant-loop-cell : goal.invariant-loop-cell
invariant-loop-cell l = Counting l.self.cells.now l.n l.cell-index
