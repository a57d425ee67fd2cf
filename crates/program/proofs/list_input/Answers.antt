-- What the search leaves of `list_input`.
use Rattle.std.proofs.Common.{rules}
use Rattle.program.proofs.Laws.{lists-input}
use Rattle.program.proofs.list_input.Goals as goal

pub returns : goal.returns
returns c =
    lists-input _ _ _ _ _ _ _ c.list.ensures c.min.ensures
    (search rules)  -- the text
    (search rules)  -- the output
    (search rules)  -- the name
    (search rules)  -- the cells
