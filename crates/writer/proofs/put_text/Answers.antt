-- What the search leaves of `put_text`.
use Rattle.std.proofs.Common.{rules}
use Rattle.print.proofs.Steps.{puts-three, puts-end}
use Rattle.writer.proofs.put_text.Goals as goal

pub returns : goal.returns
returns c = puts-end c.new-out.ensures.bytes c.new-out.ensures.at (puts-three _ _ c.put_bytes.ensures c.put_data.ensures _ c.put_bytes-2.ensures) (search rules)
