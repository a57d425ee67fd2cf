-- What the search leaves of `put_define`.
use Rattle.print.proofs.Steps.{puts-three, puts-four}
use Rattle.header_text.proofs.put_define.Goals as goal

pub returns : goal.returns
returns g c =
    puts-three _ _ (puts-four _ _ c.put_bytes.ensures c.put_bytes-2.ensures _ c.put_bytes-3.ensures _ c.put_bytes-4.ensures) c.put_number.ensures _ c.put_bytes-5.ensures
