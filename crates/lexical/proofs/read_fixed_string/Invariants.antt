-- What each turn of the loop in `read_fixed_string` keeps.
use Rattle.std.specs.Prelude.{drop}
use Rattle.lexical.specs.Lexical.{fixed, number}
use Rattle.lexical.proofs.Laws.{Leads}
use Rattle.lexical.proofs.read_fixed_string.Given as goal

abbrev pub invariant-loop-right : goal.invariant-loop-right
invariant-loop-right l = Leads (fixed (number l.part) l.s) l.initial.r (fixed (number l.part) (drop l.right-index l.s)) l.r
