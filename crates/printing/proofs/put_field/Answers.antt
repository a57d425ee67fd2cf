-- What the search leaves of `put_field`.
use Rattle.std.proofs.Common.{rules}
use Rattle.print.proofs.Steps.{puts-two, puts-decimal}
use Rattle.printing.proofs.put_field.Goals as goal

pub returns : goal.returns
returns c = puts-two _ _ c.put_bytes.ensures (puts-decimal _ (search rules) c.put_number.ensures)
