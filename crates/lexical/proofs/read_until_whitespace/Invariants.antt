-- What each turn of the loop in `read_until_whitespace` keeps.
use Rattle.std.specs.Prelude.{length}
use Rattle.text.specs.Place.{rest}
use Rattle.lexical.specs.Lexical.{number, is_loose}
use Rattle.lexical.proofs.Tokens.{Taking}
use Rattle.lexical.proofs.read_until_whitespace.Given as goal

abbrev pub invariant-loop-b : goal.invariant-loop-b
invariant-loop-b l = Taking is_loose (number l.part) l.limit l.initial.r l.start l.r

abbrev pub decreases-loop-b : goal.decreases-loop-b
decreases-loop-b l = length (rest l.r.text.now l.r.location)
