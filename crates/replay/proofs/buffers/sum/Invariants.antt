-- The sum of the cells so far, below the modulus.
use Rattle.std.proofs.Common.{◌≡◌, ◌+◌, ◌*◌, ◌%◌, ◌<◌, take}
use Rattle.std.specs.Prelude.{fold}
use Rattle.replay.proofs.buffers.sum.Given as goal

abbrev pub invariant-loop-cell : goal.invariant-loop-cell
invariant-loop-cell l = (l.sum < 4294967291) × (l.sum ≡ fold (λ sum digit. (sum * 257 + digit) % 4294967291) 0 (take l.cell-index l.cells))
