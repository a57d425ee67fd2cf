-- What each turn of the loop in `Buffer::put_bytes` keeps: the bytes before this one are put.
use Rattle.print.proofs.Putting.{Putting}
use Rattle.print.proofs.Buffer.put_bytes.Given as goal

abbrev pub invariant-loop-b : goal.invariant-loop-b
invariant-loop-b l = Putting l.s l.b-index l.initial.self l.self l.at
