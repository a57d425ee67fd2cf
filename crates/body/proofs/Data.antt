-- The theorems about what specs/Data.antt defines.
use Rattle.std.specs.Prelude.{ℕ, zero, suc, [], ◌∷◌, Bool, true, false}
use Rattle.text.specs.Reader.{Local, Firm, Mild, Grows}
use Rattle.text.proofs.Reader.{bind-local, bind-firm}
use Rattle.text.proofs.Leaf.{give-local, give-firm}
use Rattle.lexical.proofs.Lexical.{locals, milds, firms}
use Rattle.hexadecimal.proofs.HexLaws.{hex_unit-local, hex_unit-mild, hex_unit-firm, hex_unit-grows}
use Rattle.body.specs.Data.{item, items, brace, closing, tail, trailer}

-- ---- laws

ruleset units = (hex_unit-local, hex_unit-mild, hex_unit-firm, hex_unit-grows)

pub item-local : (f : Bool) → Local (item f)
unfolding item
item-local true = search (locals, units) depth 20 fits 3000
item-local false = search (locals, units) depth 20 fits 3000

pub item-mild : (f : Bool) → Mild (item f)
unfolding item
item-mild true = search (milds, locals, units) depth 20 fits 3000
item-mild false = search (milds, locals, units) depth 20 fits 3000

pub item-firm : (f : Bool) → Firm (item f)
unfolding item
item-firm true = search (firms, units) depth 30 fits 10000
item-firm false = search (firms, units) depth 30 fits 10000

pub item-grows : (f : Bool) → Grows (item f)
unfolding item
item-grows true = search (firms, units) depth 30 fits 10000
item-grows false = search (firms, units) depth 30 fits 10000

pub items-local : (k : ℕ) (f : Bool) → Local (items k f)
unfolding items
items-local zero f = give-local []
items-local (suc k) f = bind-local (item-local f) (λ b. bind-local (items-local k false) (λ l. give-local (b ∷ l)))

pub items-firm : (k : ℕ) (f : Bool) → Firm (items k f)
unfolding items
items-firm zero f = give-firm []
items-firm (suc k) f =
    bind-firm (item-local f) (λ b. bind-local (items-local k false) (λ l. give-local (b ∷ l))) (item-firm f)
    (λ b. bind-firm (items-local k false) (λ l. give-local (b ∷ l)) (items-firm k false) (λ l. give-firm (b ∷ l)))

pub brace-local : Local brace
unfolding brace
brace-local = search locals depth 12

pub brace-mild : Mild brace
unfolding brace
brace-mild = search (milds, locals) depth 12

pub closing-local : Local closing
unfolding closing
closing-local = search (brace-local, locals) depth 20 fits 3000

pub closing-firm : Firm closing
unfolding closing
closing-firm = search (brace-local, brace-mild, firms) depth 30 fits 10000

pub tail-local : Local tail
unfolding tail
tail-local = search locals

pub trailer-local : Local trailer
unfolding trailer
trailer-local = search (bind-local, closing-local, tail-local)
