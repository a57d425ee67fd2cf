-- What each turn of the loop in `store` keeps: the bytes before this one are stored.
use Rattle.std.specs.Prelude.{◌≡◌, take}
use Rattle.lexical.specs.Token.{overlay}
use Rattle.symbol.proofs.store.Given as goal

abbrev pub invariant-loop-i : goal.invariant-loop-i
invariant-loop-i l = l.name ≡ overlay (take l.i l.taken) l.initial.name
