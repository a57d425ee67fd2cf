-- The format's parts can be saved: define lines with any token, the array line, data bytes, the closing, what follows it.
use Rattle.std.specs.Prelude.{◌≡◌, refl, ℕ, zero, suc, Bool, true, false, List, [], ◌∷◌}
use Rattle.text.specs.declared.TextLocation.{TextLocation}
use Rattle.text.specs.Ascii.{ascii}
use Rattle.text.specs.Place.{byte_of}
use Rattle.text.specs.Reader.{Reader, ◌>>=◌, ◌>>◌}
use Rattle.text.specs.Leaf.{give, fork}
use Rattle.lexical.specs.Lexical.{is, fixed, gap, line_end, is_blank, is_loose}
use Rattle.lexical.proofs.Lexical.{firms}
use Rattle.lexical.specs.Token.{token}
use Rattle.hexadecimal.specs.Hex.{hexv, hex_of, hex_digit, hex_start, hex_digits, hex_unit, is_mark}
use Rattle.symbol.specs.Symbol.{hash_define}
use Rattle.lines.specs.Lines.{element, array_line}
use Rattle.lines.proofs.Lines.{line_laws}
use Rattle.body.specs.Data.{item, items, brace, closing, tail}
use Rattle.grammar.specs.Lang.{All}
use Rattle.grammar.specs.Grammar.{solid}
use Rattle.grammar.proofs.Fits.{Follow, Any, End, Off, Next}
use Rattle.places.proofs.Saving.{Way, Able, Open, bind-able, bind-open}
use Rattle.places.proofs.SavingLeaves.{next-off, give-open, one-open, byte-open, skip-open, fixed-open, gap-open, line_end-open, name-open, eot-open, fork-open}
use Rattle.places.proofs.SavingRuns.{token-able}

-- how it begins does not matter
pub bind-any : {A : Type 0} {p : Reader A} {F G : Follow} → Open p F G → Open p F Any
unfolding Any
bind-any {A} {p} {F} {G} h = record {
  able = record { local = h.able.local; keeps = h.able.keeps; empty = λ t i a q k. tt; can = λ t i g. wider t i (byte_of i) (h.able.can t i g) };
  saves = λ t i c e g q. (let (n, l, k, w) = h.saves t i c e g q in (n, l, k, wider t i n w));
}
  where
    wider : (t : List ℕ) (i : TextLocation) (n : ℕ) → Way p F G t i n → Way p F (λ r. Unit {0}) t i n
    wider t i n w = record { text = w.text; value = w.value; end = w.end; same = w.same; far = w.far; reach = w.reach; inside = w.inside; reads = w.reads; begins = λ z u s k. tt }

-- ---- the define lines

-- one whose symbol is known, up to its token
unfoldable pub headed : ℕ → List ℕ → List ℕ → Reader (Unit {0})
headed c name z = fixed c hash_define >> gap c >> fixed c name >> fixed c z >> gap c

pub headed-open : (c : ℕ) (name z : List ℕ) → All solid name → Open (headed c name (95 ∷ z)) (Next 10) (Next 35)
unfolding headed Next Any is_blank
headed-open c name z s =
    bind-open {F = Any} (fixed-open c 35 (ascii "define") (λ r. refl)) (λ a. bind-open {F = Off is_blank} (gap-open c (λ r h. h) (λ r. tt)) (λ a. bind-open {F = Next 95} (name-open c name s) (λ a. bind-open {F = Any} (fixed-open c 95 z (λ r. refl)) (λ a. gap-open c (next-off is_blank 10 refl) (λ r. tt)))))

-- its token and its end
abbrev pub valued : {A B : Type 0} → ℕ → (A → List ℕ → B) → A → Reader B
valued c f a = token is_loose c 11 >>= λ w. line_end c >>= λ x. give (f a w)

pub lined-open : {B : Type 0} (c : ℕ) (b : B) → Open (line_end c >>= λ x. give b) Any (Next 10)
unfolding Any
lined-open c b = bind-open (line_end-open c {F = Any}) (λ x. give-open b (λ r h. tt))

pub valued-able : {A B : Type 0} (c : ℕ) (f : A → List ℕ → B) (a : A) → Able (valued c f a) Any (Next 10)
valued-able c f a = bind-able {F = Next 10} (token-able c (next-off solid 10 refl)) (λ w. (lined-open c (f a w)).able)

-- ---- the array line

pub array-open : (c : ℕ) (name : List ℕ) {F : Follow} → All solid name → Open (array_line c name) F (Next 115)
unfolding array_line element Next Any is_blank
array-open c name s =
    bind-open {F = Any} (fixed-open c 115 (ascii "tatic") (λ r. refl)) (λ a. bind-open {F = Off is_blank} (gap-open c (λ r h. h) (λ r. tt)) (λ a. bind-open {F = Any} element-open (λ a. bind-open {F = Off is_blank} (gap-open c (λ r h. h) (λ r. tt)) (λ a. bind-open {F = Next 95} (name-open c name s) (λ a. bind-open {F = Any} (fixed-open c 95 (ascii "bits[]") (λ r. refl)) (λ a. bind-open {F = Next 61} (gap-open c (next-off is_blank 61 refl) (λ r. tt)) (λ a. bind-open {F = Any} (fixed-open c 61 [] (λ r. refl)) (λ a. bind-open {F = Next 123} (gap-open c (next-off is_blank 123 refl) (λ r. tt)) (λ a. fixed-open c 123 [] (λ r. refl))))))))))
  where
    element-open : Open (fork c 99 (fixed c (ascii "char")) 117 (fixed c (ascii "unsigned") >> gap c >> fixed c (ascii "char"))) Any (Off is_blank)
    element-open = fork-open c 99 117 (fixed-open c 99 (ascii "har") (λ r. refl)) (bind-open {F = Any} (fixed-open c 117 (ascii "nsigned") (λ r. refl)) (λ a. bind-open {F = Next 99} (gap-open c (next-off is_blank 99 refl) (λ r. tt)) (λ a. fixed-open c 99 (ascii "har") (λ r. refl)))) (search (firms, line_laws) depth 20 fits 5000) (search (firms, line_laws) depth 20 fits 5000) (search (firms, line_laws) depth 20 fits 5000) (search (firms, line_laws) depth 20 fits 5000) (λ r. off 99 r refl) (λ r. off 117 r refl) refl
      where
        off : (x : ℕ) (r : List ℕ) → is_blank x ≡ false → Off is_blank (x ∷ r)
        off x r q = unfold Off in q

-- ---- data bytes

loose-off : (x : ℕ) → is_loose x ≡ false → (r : List ℕ) → Next x r → Off is_loose r
loose-off x q = next-off is_loose x q

digits-open : (c n v : ℕ) {F : Follow} → Open (hex_digits c n v) F Any
unfolding hex_digits hex_digit hexv hex_of Any
digits-open c zero v = give-open v (λ r h. tt)
digits-open c (suc n) v = bind-open {F = Any} (one-open c hexv 48 0 refl (λ r. tt)) (λ d. digits-open c n _)

unit-open : (c n : ℕ) {F : Follow} → Open (hex_unit c n) F (Next 48)
unfolding hex_unit hex_start hex_digit hexv hex_of is_mark Any Next
unit-open c n = bind-open {F = Any} (bind-open {F = Any} (fixed-open c 48 [] (λ r. refl)) (λ a. byte-open c is_mark 120 refl (λ r. tt))) (λ a. bind-open {F = Any} (one-open c hexv 48 0 refl (λ r. tt)) (λ d. digits-open c n d))

pub item-open : (f : Bool) {F : Follow} → Open (item f) F Any
unfolding item is_loose is_blank Next Any
item-open true = bind-any (bind-open {F = Next 48} (skip-open is_loose (loose-off 48 refl)) (λ a. unit-open 6 1))
item-open false = bind-any (bind-open {F = Next 44} (skip-open is_loose (loose-off 44 refl)) (λ a. bind-open {F = Next 48} (byte-open 6 (is 44) 44 refl (λ r. refl)) (λ a. bind-open {F = Next 48} (skip-open is_loose (loose-off 48 refl)) (λ a. unit-open 6 1))))

pub items-open : (k : ℕ) (f : Bool) {F : Follow} → Open (items k f) F Any
unfolding items Any
items-open zero f = give-open [] (λ r h. tt)
items-open (suc k) f = bind-open {F = Any} (item-open f) (λ b. bind-open {F = Any} (items-open k false) (λ l. give-open (b ∷ l) (λ r h. tt)))

-- ---- the closing, and what follows it

brace-open : {F : Follow} → Open brace F (Off is_loose)
unfolding brace is_loose is_blank Next Any Off
brace-open = fork-open 7 44 125 (bind-open {F = Next 125} (byte-open 7 (is 44) 44 refl (λ r. refl)) (λ a. bind-open {F = Next 125} (skip-open is_loose (loose-off 125 refl)) (λ a. fixed-open 7 125 [] (λ r. refl)))) (fixed-open 7 125 [] (λ r. refl)) (search firms depth 20 fits 5000) (search firms depth 20 fits 5000) (search firms depth 20 fits 5000) (search firms depth 20 fits 5000) (λ r. refl) (λ r. refl) refl

pub closing-open : {F : Follow} → Open closing F (Off is_loose)
unfolding closing is_loose is_blank Next
closing-open = bind-open {F = Off is_loose} (skip-open is_loose (λ r h. h)) (λ a. bind-open {F = Next 59} brace-open (λ a. bind-open {F = Next 59} (skip-open is_loose (loose-off 59 refl)) (λ a. fixed-open 7 59 [] (λ r. refl))))

pub tail-open : Open tail End End
unfolding tail
tail-open = bind-open {F = End} (skip-open is_loose end-off) (λ a. eot-open 8)
  where
    end-off : (r : List ℕ) → End r → Off is_loose r
    end-off r h = unfold End Off in rw h tt
