-- What the search leaves of `put_hotspot`.
use Rattle.std.proofs.Common.{rules}
use Rattle.printing.proofs.Laws.{pair-put}
use Rattle.printing.proofs.put_hotspot.Goals as goal

pub returns-in-Some : goal.returns-in-Some
returns-in-Some c = rw c.in-Some.is (pair-put _ _ (search rules) (search rules) c.put_number.ensures c.put_bytes.ensures c.put_number-in-Some.ensures)
