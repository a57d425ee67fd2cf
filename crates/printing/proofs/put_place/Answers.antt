-- What the search leaves of `put_place`.
use Rattle.print.proofs.Steps.{puts-four}
use Rattle.printing.proofs.put_place.Goals as goal

pub returns : goal.returns
returns c = puts-four _ _ c.put_field.ensures c.put_field-2.ensures _ c.put_field-3.ensures _ c.put_field-4.ensures
