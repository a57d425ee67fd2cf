-- What the search leaves of `put_array`.
use Rattle.print.proofs.Steps.{puts-three}
use Rattle.header_text.proofs.put_array.Goals as goal

pub returns : goal.returns
returns c = puts-three _ _ c.put_bytes.ensures c.put_bytes-2.ensures _ c.put_bytes-3.ensures
