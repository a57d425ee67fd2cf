-- What each turn of the loop in `skip_lines` keeps.
use Rattle.std.specs.Prelude.{◌-◌, true, length}
use Rattle.text.specs.Place.{byte_of}
use Rattle.lexical.specs.Lexical.{number, leading}
use Rattle.lexical.proofs.Laws.{Leads}
use Rattle.leading.proofs.skip_lines.Given as goal

abbrev pub invariant-loop-b : goal.invariant-loop-b
invariant-loop-b l = Leads (leading (number l.part) true) l.initial.r (leading (number l.part) true) l.r

abbrev pub decreases-loop-b : goal.decreases-loop-b
decreases-loop-b l = length l.r.text.now - byte_of l.r.location
