-- What each turn of the loop in `skip_while` keeps.
use Rattle.std.specs.Prelude.{◌≡◌, ℕ, Bool, length}
use Rattle.text.specs.Place.{rest}
use Rattle.lexical.specs.Class.{Decides}
use Rattle.lexical.specs.Lexical.{skip}
use Rattle.lexical.proofs.Laws.{Leads}
use Rattle.lexical.proofs.skip_while.Given as goal

abbrev pub invariant-loop-b : goal.invariant-loop-b
invariant-loop-b g l = (l.r.text ≡ l.initial.r.text) × ((class : ℕ → Bool) → Decides (goal.F-post g l.class) class → Leads (skip class) l.initial.r (skip class) l.r)

abbrev pub decreases-loop-b : goal.decreases-loop-b
decreases-loop-b g l = length (rest l.r.text.now l.r.location)
