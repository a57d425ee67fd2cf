-- What the search leaves of `put_spot`.
use Rattle.std.proofs.Common.{rules}
use Rattle.header_text.proofs.Laws.{spot-put}
use Rattle.print.proofs.Steps.{puts-none}
use Rattle.header_text.proofs.put_spot.Goals as goal

pub returns-in-Some : goal.returns-in-Some
returns-in-Some c = rw c.in-Some.is (spot-put _ _ _ (search rules) (search rules) c.put_define.ensures c.put_define-in-Some.ensures)

pub returns-in_default : goal.returns-in_default
returns-in_default c = rw c.in_default.is (puts-none _)
