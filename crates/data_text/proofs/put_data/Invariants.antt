-- What each turn of the loop in `put_data` keeps: so many data bytes are put.
use Rattle.print.specs.Puts.{Puts}
use Rattle.data_text.specs.Packed.{packed_from}
use Rattle.data_text.specs.DataText.{data_text}
use Rattle.data_text.proofs.put_data.Given as goal

abbrev pub invariant-loop-k : goal.invariant-loop-k
invariant-loop-k l = Puts (data_text 0 (packed_from l.mask.width l.mask.cells.now 0 l.k)) l.initial.out l.out
