-- What the search leaves of `put_hotspot_line`.
use Rattle.print.proofs.Steps.{puts-two}
use Rattle.printing.proofs.put_hotspot_line.Goals as goal

pub returns : goal.returns
returns c = puts-two _ _ c.put_bytes.ensures c.put_hotspot.ensures
