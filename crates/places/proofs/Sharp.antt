-- How a reader's refusal with a place comes about: the text ends there; or the bytes up to it decide it, whatever follows; or it looked ahead, as a relation says. The readers here never do.
use Rattle.std.specs.Prelude.{◌≡◌, refl, ℕ, zero, suc, ◌+◌, ◌/◌, ◌<◌, Bool, true, false, List, [], ◌∷◌, eqb, ltb}
use Rattle.std.proofs.Common.{ap, ◌∙◌, arith}
use Rattle.std.proofs.Math.Option.{Option, none, some}
use Rattle.text.specs.declared.TextLocation.{TextLocation}
use Rattle.text.specs.Place.{pick, byte_of, rest, after}
use Rattle.text.proofs.Rest.{after-rest, rest-agree}
use Rattle.text.specs.Reader.{Result, ok, stop, bad, end_of, Reader, then, ◌>>=◌, Local, Same}
use Rattle.text.proofs.Reader.{ahead, bind-local}
use Rattle.text.specs.Leaf.{give, need, one, first, judge, go_on, stay, moved, scan, run, fork, fork_of, choose, eot, end_if, Alike, heads}
use Rattle.text.proofs.Leaf.{alike, give-local}
use Rattle.lexical.specs.Lexical.{is, while, lead, byte, skip, fixed, gap, line_end, leading}
use Rattle.lexical.proofs.Lexical.{locals, byte-local, fixed-local}
use Rattle.hexadecimal.specs.Hex.{hexv, hex_digit, hex_start, hex_digits, hex_unit}
use Rattle.hexadecimal.proofs.HexLaws.{hex_unit-local, hex_digits-local, hex_digit-local}
use Rattle.lines.specs.Lines.{element, array_line}
use Rattle.lines.proofs.Lines.{line_laws}
use Rattle.body.specs.Data.{item, items, brace, closing, tail, trailer}
use Rattle.body.proofs.Data.{item-local, items-local, closing-local, trailer-local, brace-local}
use Rattle.cells.specs.Cells.{count}
use Rattle.rows.specs.Rows.{ending, whole}
use Rattle.rows.proofs.RowsLaws.{ending-local}

-- what is known where a reader, started at a place of a text, looked ahead: its number, and the place that it tells
abbrev pub Looks : Type 1
Looks = List ℕ → TextLocation → ℕ → TextLocation → Type 0

unfoldable pub Never : Looks
Never t i c e = ⊥

pub data Why {A : Type 0} (L : Looks) (p : Reader A) (t : List ℕ) (i : TextLocation) (c : ℕ) (e : TextLocation) : Type 0 where
  ends : rest t e ≡ [] → Why L p t i c e
  decided : byte_of i < byte_of e → ((u : List ℕ) → Same t u (byte_of e) → p u i ≡ stop c e) → Why L p t i c e
  saw : L t i c e → Why L p t i c e

abbrev pub Sure : {A : Type 0} → Looks → Reader A → List ℕ → TextLocation → Result A → Type 0
Sure L p t i (ok a e) = Unit {0}
Sure L p t i (stop c e) = Why L p t i c e
Sure L p t i (bad c e) = Unit {0}

pub record Sharp {A : Type 0} (L : Looks) (p : Reader A) : Type 0 where
  pub sharp : (t : List ℕ) (i : TextLocation) → Sure L p t i (p t i)

pub sharp-weak : {A : Type 0} {L M : Looks} {p : Reader A} → ((t : List ℕ) (i : TextLocation) (c : ℕ) (e : TextLocation) → L t i c e → M t i c e) → Sharp L p → Sharp M p
sharp-weak {A} {L} {M} {p} k h = record { sharp = λ t i. go t i (p t i) (h.sharp t i) }
  where
    go : (t : List ℕ) (i : TextLocation) (r : Result A) → Sure L p t i r → Sure M p t i r
    go t i (ok a e) s = tt
    go t i (bad c e) s = tt
    go t i (stop c e) (ends x) = ends x
    go t i (stop c e) (decided l g) = decided l g
    go t i (stop c e) (saw x) = saw (k t i c e x)

-- one reader after another: the first looked, or the second did where the first ended
pub bind-looks : {A B : Type 0} {p : Reader A} {f : A → Reader B} {L N : Looks} (M : A → Looks) → Local p → ((a : A) → Local (f a)) → Sharp L p → ((a : A) → Sharp (M a) (f a))
    → ((t : List ℕ) (i : TextLocation) (c : ℕ) (e : TextLocation) → L t i c e → N t i c e)
    → ((t : List ℕ) (i : TextLocation) (a : A) (m : TextLocation) (c : ℕ) (e : TextLocation) → p t i ≡ ok a m → M a t m c e → N t i c e)
    → Sharp N (p >>= f)
unfolding ◌>>=◌
bind-looks {A} {B} {p} {f} {L} {N} M lp lf hp hf here there = record { sharp = λ t i. go t i (p t i) refl (hp.sharp t i) }
  where
    second : (t : List ℕ) (i : TextLocation) (a : A) (m : TextLocation) → p t i ≡ ok a m → (r : Result B) → f a t m ≡ r → Sure (M a) (f a) t m r → Sure N (λ t i. then (p t i) (λ a e. f a t e)) t i r
    second t i a m q (ok b e) z s = tt
    second t i a m q (bad c e) z s = tt
    second t i a m q (stop c e) z (ends x) = ends x
    second t i a m q (stop c e) z (saw x) = saw (there t i a m c e q x)
    second t i a m q (stop c e) z (decided l k) =
        decided (omega (arith, ahead lp t i, ap (λ (r : Result A). byte_of (end_of r)) q)) (λ u s. rw (lp.near t u i (λ j b. s j (omega (arith, ap (λ (r : Result A). byte_of (end_of r)) q))) ∙ q) (k u s))

    go : (t : List ℕ) (i : TextLocation) (r : Result A) → p t i ≡ r → Sure L p t i r → Sure N (λ t i. then (p t i) (λ a e. f a t e)) t i (then r (λ a e. f a t e))
    go t i (ok a m) q s = second t i a m q (f a t m) refl ((hf a).sharp t m)
    go t i (bad c e) q s = tt
    go t i (stop c e) q (ends x) = ends x
    go t i (stop c e) q (saw x) = saw (here t i c e x)
    go t i (stop c e) q (decided l k) = decided l (λ u s. rw (k u s))

-- only the first does
pub first-looks : {A B : Type 0} {p : Reader A} {f : A → Reader B} {L : Looks} → Local p → ((a : A) → Local (f a)) → Sharp L p → ((a : A) → Sharp Never (f a)) → Sharp L (p >>= f)
unfolding Never
first-looks lp lf hp hf = bind-looks (λ a. Never) lp lf hp hf (λ t i c e x. x) (λ t i a m c e q x. absurd x)

-- none does
pub bind-sharp : {A B : Type 0} {p : Reader A} {f : A → Reader B} → Local p → ((a : A) → Local (f a)) → Sharp Never p → ((a : A) → Sharp Never (f a)) → Sharp Never (p >>= f)
bind-sharp lp lf hp hf = first-looks lp lf hp hf

pub give-sharp : {A : Type 0} (a : A) → Sharp Never (give a)
unfolding give
give-sharp a = record { sharp = λ t i. tt }

pub need-sharp : {A : Type 0} (c : ℕ) (o : Option A) → Sharp Never (need c o)
unfolding need
need-sharp c none = record { sharp = λ t i. tt }
need-sharp c (some a) = record { sharp = λ t i. tt }

-- the next byte is the same
pub same_next : (t u : List ℕ) (i : TextLocation) (n : ℕ) → Same t u n → byte_of i < n → Alike (rest t i) (rest u i)
same_next t u i n s l = alike (rest t i) (rest u i) (rest-agree t u i 0 (s (byte_of i + 0) (omega arith)))

pub one-sharp : {A : Type 0} (c : ℕ) (g : ℕ → Option A) → Sharp Never (one c g)
unfolding one after
one-sharp {A} c g = record { sharp = λ t i. go t i (rest t i) refl }
  where
    same : (b : ℕ) (l m : List ℕ) (i : TextLocation) → Alike (b ∷ l) m → first c g m i ≡ judge c (g b) (after b i)
    same b l m i heads = refl

    two : (t : List ℕ) (i : TextLocation) (b : ℕ) (l : List ℕ) → rest t i ≡ b ∷ l → (o : Option A) → g b ≡ o → Sure Never (λ t i. first c g (rest t i) i) t i (judge c o (after b i))
    two t i b l q (some a) z = tt
    two t i b l q none z = decided (omega arith) (λ u s. same b l (rest u i) i (rw q at (same_next t u i (byte_of i + 1) s (omega arith))) ∙ rw z)

    go : (t : List ℕ) (i : TextLocation) (l : List ℕ) → rest t i ≡ l → Sure Never (λ t i. first c g (rest t i) i) t i (first c g l i)
    go t i [] q = ends q
    go t i (b ∷ l) q = two t i b l q (g b) refl

pub byte-sharp : (c : ℕ) (class : ℕ → Bool) → Sharp Never (byte c class)
unfolding byte
byte-sharp c class = one-sharp c _

pub skip-sharp : (class : ℕ → Bool) → Sharp Never (skip class)
unfolding skip run
skip-sharp class = record { sharp = λ t i. go t i (rest t i) i }
  where
    go : (t : List ℕ) (j : TextLocation) (l : List ℕ) (i : TextLocation) → Sure Never (λ t i. scan 0 (while class) (λ s. some tt) tt (rest t i) i) t j (scan 0 (while class) (λ s. some tt) tt l i)
    go t j [] i = tt
    go t j (b ∷ l) i = two (class b) (go t j l (after b i))
      where
        two : (d : Bool) → Sure Never (λ t i. scan 0 (while class) (λ s. some tt) tt (rest t i) i) t j (scan 0 (while class) (λ s. some tt) tt l (after b i))
            → Sure Never (λ t i. scan 0 (while class) (λ s. some tt) tt (rest t i) i) t j (moved {S = Unit {0}} 0 i (pick d (go_on tt) (stay tt)) (λ s. scan 0 (while class) (λ s. some tt) s l (after b i)))
        two true h = h
        two false h = tt

pub fixed-sharp : (c : ℕ) (w : List ℕ) → Sharp Never (fixed c w)
unfolding fixed
fixed-sharp c [] = give-sharp tt
fixed-sharp c (x ∷ w) = bind-sharp (byte-local c (is x)) (λ a. fixed-local c w) (byte-sharp c (is x)) (λ a. fixed-sharp c w)

pub gap-sharp : (c : ℕ) → Sharp Never (gap c)
unfolding gap
gap-sharp c = bind-sharp (search locals) (λ a. search locals) (byte-sharp c _) (λ a. skip-sharp _)

pub line_end-sharp : (c : ℕ) → Sharp Never (line_end c)
unfolding line_end
line_end-sharp c = bind-sharp (search locals) (λ a. search locals) (skip-sharp _) (λ a. byte-sharp c _)

-- leading lines are refused at the end alone
pub leading-sharp : (c : ℕ) (fresh : Bool) → Sharp Never (leading c fresh)
unfolding leading run
leading-sharp c fresh = record { sharp = λ t i. go t i fresh (rest t i) i refl }
  where
    go : (t : List ℕ) (j : TextLocation) (s : Bool) (l : List ℕ) (i : TextLocation) → rest t i ≡ l → Sure Never (λ t i. scan c lead (λ s. none) fresh (rest t i) i) t j (scan c lead (λ s. none) s l i)
    go t j s [] i q = ends q
    go t j true (b ∷ l) i q = two (eqb b 35) (go t j (eqb b 10) l (after b i) (after-rest t i q))
      where
        two : (d : Bool) → Sure Never (λ t i. scan c lead (λ s. none) fresh (rest t i) i) t j (scan c lead (λ s. none) (eqb b 10) l (after b i))
            → Sure Never (λ t i. scan c lead (λ s. none) fresh (rest t i) i) t j (moved c i (pick d (stay tt) (go_on (eqb b 10))) (λ s. scan c lead (λ s. none) s l (after b i)))
        two true h = tt
        two false h = h
    go t j false (b ∷ l) i q = go t j (eqb b 10) l (after b i) (after-rest t i q)

pub fork-sharp : {A : Type 0} {L : Looks} (c x : ℕ) {p : Reader A} (y : ℕ) {q : Reader A} → Sharp L p → Sharp L q → Sharp L (fork c x p y q)
unfolding fork after
fork-sharp {A} {L} c x {p} y {q} hp hq = record { sharp = λ t i. go t i (rest t i) refl }
  where
    R : Reader A
    R t i = fork_of c x p y q (rest t i) t i

    same : (b : ℕ) (l m u : List ℕ) (i : TextLocation) (d z : Bool) → eqb b x ≡ d → eqb b y ≡ z → Alike (b ∷ l) m → fork_of c x p y q m u i ≡ choose c (after b i) p q d z u i
    same b l m u i d z e f heads = rw (e, f)

    keep : (o : Reader A) (t : List ℕ) (i : TextLocation) (b : ℕ) (l : List ℕ) → rest t i ≡ b ∷ l → ((u : List ℕ) → Alike (b ∷ l) (rest u i) → fork_of c x p y q (rest u i) u i ≡ o u i) → (r : Result A) → Sure L o t i r → Sure L (λ t i. fork_of c x p y q (rest t i) t i) t i r
    keep o t i b l e k (ok a m) s = tt
    keep o t i b l e k (bad a m) s = tt
    keep o t i b l e k (stop a m) (ends z) = ends z
    keep o t i b l e k (stop a m) (saw z) = saw z
    keep o t i b l e k (stop a m) (decided z g) = decided z (λ u s. k u (rw e at (same_next t u i (byte_of m) s z)) ∙ g u s)

    two : (t : List ℕ) (i : TextLocation) (b : ℕ) (l : List ℕ) → rest t i ≡ b ∷ l → (d z : Bool) → eqb b x ≡ d → eqb b y ≡ z → Sure L (λ t i. fork_of c x p y q (rest t i) t i) t i (choose c (after b i) p q d z t i)
    two t i b l e true z f g = keep p t i b l e (λ u h. same b l (rest u i) u i true z f g h) (p t i) (hp.sharp t i)
    two t i b l e false true f g = keep q t i b l e (λ u h. same b l (rest u i) u i false true f g h) (q t i) (hq.sharp t i)
    two t i b l e false false f g = decided (omega arith) (λ u s. same b l (rest u i) u i false false f g (rw e at (same_next t u i (byte_of i + 1) s (omega arith))))

    go : (t : List ℕ) (i : TextLocation) (l : List ℕ) → rest t i ≡ l → Sure L (λ t i. fork_of c x p y q (rest t i) t i) t i (fork_of c x p y q l t i)
    go t i [] e = ends e
    go t i (b ∷ l) e = two t i b l e (eqb b x) (eqb b y) refl refl

pub eot-sharp : (c : ℕ) → Sharp Never (eot c)
unfolding eot after
eot-sharp c = record { sharp = λ t i. go t i (rest t i) refl }
  where
    same : (b : ℕ) (l m : List ℕ) (i : TextLocation) → Alike (b ∷ l) m → end_if c m i ≡ stop c (after b i)
    same b l m i heads = refl

    go : (t : List ℕ) (i : TextLocation) (l : List ℕ) → rest t i ≡ l → Sure Never (λ t i. end_if c (rest t i) i) t i (end_if c l i)
    go t i [] e = tt
    go t i (b ∷ l) e = decided (omega arith) (λ u s. same b l (rest u i) i (rw e at (same_next t u i (byte_of i + 1) s (omega arith))))

pub ruleset sharps = (bind-sharp, give-sharp, need-sharp, byte-sharp, skip-sharp, fixed-sharp, gap-sharp, line_end-sharp, leading-sharp, fork-sharp, eot-sharp, one-sharp, locals, line_laws)

-- ---- the format's parts that never look ahead

pub array-sharp : (name : List ℕ) → Sharp Never (array_line 5 name)
unfolding array_line element
array-sharp name = search sharps depth 60 fits 20000

digits-sharp : (c n v : ℕ) → Sharp Never (hex_digits c n v)
unfolding hex_digits hex_digit
digits-sharp c zero v = give-sharp v
digits-sharp c (suc n) v = bind-sharp (hex_digit-local c) (λ d. hex_digits-local c n _) (one-sharp c hexv) (λ d. digits-sharp c n _)

unit-sharp : (c n : ℕ) → Sharp Never (hex_unit c n)
unfolding hex_unit hex_start hex_digit
unit-sharp c n = search (sharps, digits-sharp, hex_digits-local) depth 30 fits 5000

item-sharp : (f : Bool) → Sharp Never (item f)
unfolding item
item-sharp true = search (sharps, unit-sharp, hex_unit-local) depth 30 fits 5000
item-sharp false = search (sharps, unit-sharp, hex_unit-local) depth 30 fits 5000

items-sharp : (k : ℕ) (f : Bool) → Sharp Never (items k f)
unfolding items
items-sharp zero f = give-sharp []
items-sharp (suc k) f = bind-sharp (item-local f) (λ b. bind-local (items-local k false) (λ l. give-local (b ∷ l))) (item-sharp f) (λ b. bind-sharp (items-local k false) (λ l. give-local (b ∷ l)) (items-sharp k false) (λ l. give-sharp (b ∷ l)))

brace-sharp : Sharp Never brace
unfolding brace
brace-sharp = search sharps depth 20

closing-sharp : Sharp Never closing
unfolding closing
closing-sharp = search (sharps, brace-sharp, brace-local) depth 30 fits 5000

trailer-sharp : Sharp Never trailer
unfolding trailer tail
trailer-sharp = search (sharps, closing-sharp, closing-local) depth 20

ending-sharp : (e few first : Bool) (l : List ℕ) → Sharp Never (ending e few first l)
ending-sharp true few first l = search (sharps, trailer-sharp, trailer-local)
ending-sharp false true first l = search (sharps, item-sharp, item-local)
ending-sharp false false first l = search (sharps, trailer-sharp, trailer-local)

pub whole-sharp : (w h n : ℕ) → Sharp Never (whole w h n)
unfolding whole
whole-sharp w h n = bind-sharp (items-local (count w h n) true) (ending-local (eqb (n / w) h) (ltb (n / w) h) (eqb (count w h n) 0)) (items-sharp (count w h n) true) (ending-sharp (eqb (n / w) h) (ltb (n / w) h) (eqb (count w h n) 0))
