-- What the search leaves of `put_data`.
use Rattle.std.proofs.Common.{rules}
use Rattle.data_text.proofs.Putting.{data_laws}
use Rattle.data_text.proofs.put_data.Goals as goal

pub loop-k-init : goal.loop-k-init
loop-k-init c = search (data_laws, rules)

pub loop-k-preserved : goal.loop-k-preserved
loop-k-preserved c = search (data_laws, rules)
