-- What the search leaves of `rewrite_input`.
use Rattle.std.proofs.Common.{rules}
use Rattle.rewriting.proofs.Input.{rewrites-input}
use Rattle.rewriting.proofs.rewrite_input.Goals as goal

pub returns : goal.returns
returns c =
    rewrites-input _ _ _ _ _ _ _ c.rewrite.ensures c.min.ensures
    (search rules)  -- the text
    (search rules)  -- the name
    (search rules)  -- the cells
    (search rules)  -- the output
