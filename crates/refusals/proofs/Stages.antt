-- From which of several readers, one after another, a refusal comes; and a reader's refusals by the language that it fits. None is about this format.
use Rattle.std.proofs.Math.Path.{◌≡◌, refl, ap}
use Rattle.std.proofs.Common.{sym, ◌∙◌}
use Rattle.std.specs.Prelude.{◌↔◌, ℕ, ◌≤◌, Bool, eqb}
use native.Mathlib.Omega.{arith}
use Rattle.std.proofs.Math.Option.{Option, none, some}
use Rattle.std.proofs.Math.Bool.{true, false}
use mathlib.Core.List.{List, [], ◌∷◌, ◌++◌, append_assoc}
use borrow.Author.Tests.{eqb-false}
use Rattle.text.specs.declared.TextLocation.{TextLocation}
use Rattle.text.specs.Place.{start, rest, after, past}
use Rattle.text.specs.Reader.{Result, ok, stop, bad, then, Reader, ◌>>=◌, Placed, Mild}
use Rattle.text.specs.Leaf.{give, need, fork, fork_of, choose}
use Rattle.grammar.specs.Lang.{Lang, ◌·◌}
use Rattle.grammar.proofs.Bind.{past-append, move}
use Rattle.grammar.proofs.Fits.{Any, At, Fits}
use Rattle.grammar.proofs.Exact.{start-rest}
use Rattle.claims.specs.Terms.{Begun}
use Rattle.claims.proofs.Numbers.{no_number, Numbered, placed-number, untold}

pub both_ways : {X Y Z : Type 0} → (X ↔ Y) → (Y ↔ Z) → X ↔ Z
both_ways (a, b) (c, d) = ((λ x. c (a x)), λ z. b (d z))

-- ---- one after another, however they are put together

pub assoc : {A B C : Type 0} (p : Reader A) (f : A → Reader B) (g : B → Reader C) → ((p >>= f) >>= g) ≡ (p >>= λ a. f a >>= g)
unfolding ◌>>=◌
assoc {A} {B} {C} p f g = λ i t x. go t (p t x) i
  where
    go : (t : List ℕ) (r : Result A) → then (then r (λ a e. f a t e)) (λ b e. g b t e) ≡ then r (λ a e. then (f a t e) (λ b e. g b t e))
    go t (ok a e) = refl
    go t (stop c e) = refl
    go t (bad c e) = refl

pub chain : {A B C : Type 0} (p : Reader A) (f : A → Reader B) (g : B → Reader C) {h : A → Reader C} → ((a : A) → (f a >>= g) ≡ h a) → ((p >>= f) >>= g) ≡ (p >>= h)
chain {A} {B} {C} p f g {h} e = assoc p f g ∙ ap (λ (k : A → Reader C). p >>= k) (λ i a. e a i)

pub given : {A B : Type 0} (a : A) (f : A → Reader B) → (give a >>= f) ≡ f a
unfolding ◌>>=◌ give
given a f = refl

-- ---- never refused with this number and no place

pub record Quiet {A : Type 0} (c : ℕ) (p : Reader A) : Type 0 where
  pub quiet : (t : List ℕ) (i q : TextLocation) → p t i ≡ bad c q → ⊥

module _ {c : ℕ} where
  pub quiet-mild : {A : Type 0} {p : Reader A} → Mild p → Quiet c p
  quiet-mild {A} {p} m = record { quiet = λ t i q k. (let z : Placed {A = A} (bad c q) = rw k at (m.mild t i) in z) }

  pub quiet_bind : {A B : Type 0} {p : Reader A} {f : A → Reader B} → Quiet c p → ((a : A) → Quiet c (f a)) → Quiet c (p >>= f)
  unfolding ◌>>=◌
  quiet_bind {A} {B} {p} {f} hp hf = record { quiet = λ t i q k. go t i q (p t i) refl k }
    where
      go : (t : List ℕ) (i q : TextLocation) (r : Result A) → p t i ≡ r → then r (λ a e. f a t e) ≡ bad c q → ⊥
      go t i q (ok a e) u k = (hf a).quiet t e q k
      go t i q (stop d e) u k = let z : ◌≡◌ {A = ℕ} 0 1 = cc in omega arith
      go t i q (bad d e) u k = let z : d ≡ c = cc in hp.quiet t i e (u ∙ ap (λ (k : ℕ). bad k e) z)

  pub quiet-need : {A : Type 0} (d : ℕ) (o : Option A) → eqb d c ≡ false → Quiet c (need d o)
  unfolding need
  quiet-need d none h = record { quiet = λ t i q k. (let z : d ≡ c = cc in eqb-false d c h z) }
  quiet-need d (some a) h = record { quiet = λ t i q k. (let z : ◌≡◌ {A = ℕ} 0 1 = cc in omega arith) }

  pub quiet-fork : {A : Type 0} (d v : ℕ) {p : Reader A} (w : ℕ) {q : Reader A} → Quiet c p → Quiet c q → Quiet c (fork d v p w q)
  unfolding fork
  quiet-fork {A} d v {p} w {q} hp hq = record { quiet = λ t i n k. go t i n (rest t i) k }
    where
      two : (t : List ℕ) (i e n : TextLocation) (a b : Bool) → choose d e p q a b t i ≡ bad c n → ⊥
      two t i e n true b k = hp.quiet t i n k
      two t i e n false true k = hq.quiet t i n k
      two t i e n false false k = let z : ◌≡◌ {A = ℕ} 0 1 = cc in omega arith

      go : (t : List ℕ) (i n : TextLocation) (l : List ℕ) → fork_of d v p w q l t i ≡ bad c n → ⊥
      go t i n [] k = let z : ◌≡◌ {A = ℕ} 0 1 = cc in omega arith
      go t i n (b ∷ l) k = two t i (after b i) n (eqb b v) (eqb b w) k

-- ---- whose refusal it is

module _ {A B : Type 0} (p : Reader A) (f : A → Reader B) (c : ℕ) (t : List ℕ) (i : TextLocation) where
  -- the second has not this number: the first's
  pub stop-first : {lo hi : ℕ} {bare : ℕ → Bool} → ((a : A) → Numbered lo hi bare (f a)) → (lo ≤ c → c ≤ hi → ⊥) → (q : TextLocation) → ((p >>= f) t i ≡ stop c q) ↔ (p t i ≡ stop c q)
  unfolding ◌>>=◌
  stop-first {lo} {hi} {bare} n o q = go (p t i)
    where
      go : (r : Result A) → (then r (λ a e. f a t e) ≡ stop c q) ↔ (r ≡ stop c q)
      go (ok a e) = ((λ k. (let (u, v) = placed-number (n a) t e c q k in absurd (o u v))), λ k. (let z : ◌≡◌ {A = ℕ} 0 1 = cc in absurd (omega arith)))
      go (stop d e) = ((λ k. cc), λ k. cc)
      go (bad d e) = ((λ k. (let z : ◌≡◌ {A = ℕ} 0 1 = cc in absurd (omega arith))), λ k. (let z : ◌≡◌ {A = ℕ} 0 1 = cc in absurd (omega arith)))

  -- the first has not: the second's, and the first is done
  pub stop-second : {lo hi : ℕ} {bare : ℕ → Bool} → Numbered lo hi bare p → (lo ≤ c → c ≤ hi → ⊥)
      → ((q : TextLocation) × ((p >>= f) t i ≡ stop c q)) ↔ ((a : A) × (m : TextLocation) × (p t i ≡ ok a m) × ((q : TextLocation) × (f a t m ≡ stop c q)))
  unfolding ◌>>=◌
  stop-second {lo} {hi} {bare} n o = ((λ (q, k). go q (p t i) refl k), λ (a, m, u, (q, k)). (q, rw u k))
    where
      go : (q : TextLocation) (r : Result A) → p t i ≡ r → then r (λ a e. f a t e) ≡ stop c q → (a : A) × (m : TextLocation) × (p t i ≡ ok a m) × ((q : TextLocation) × (f a t m ≡ stop c q))
      go q (ok a e) u k = (a, e, u, (q, k))
      go q (stop d e) u k = let z : d ≡ c = cc in let (x, y) = placed-number n t i d e u in absurd (o (omega arith) (omega arith))
      go q (bad d e) u k = let z : ◌≡◌ {A = ℕ} 0 1 = cc in absurd (omega arith)

  pub bad-second : Quiet c p → ((q : TextLocation) × ((p >>= f) t i ≡ bad c q)) ↔ ((a : A) × (m : TextLocation) × (p t i ≡ ok a m) × ((q : TextLocation) × (f a t m ≡ bad c q)))
  unfolding ◌>>=◌
  bad-second n = ((λ (q, k). go q (p t i) refl k), λ (a, m, u, (q, k)). (q, rw u k))
    where
      go : (q : TextLocation) (r : Result A) → p t i ≡ r → then r (λ a e. f a t e) ≡ bad c q → (a : A) × (m : TextLocation) × (p t i ≡ ok a m) × ((q : TextLocation) × (f a t m ≡ bad c q))
      go q (ok a e) u k = (a, e, u, (q, k))
      go q (stop d e) u k = let z : ◌≡◌ {A = ℕ} 0 1 = cc in absurd (omega arith)
      go q (bad d e) u k = let z : d ≡ c = cc in absurd (n.quiet t i e (u ∙ ap (λ (k : ℕ). bad k e) z))

-- it has this number alone, and only with a place: refused exactly where it gives nothing
pub alone : {A : Type 0} {p : Reader A} (c : ℕ) (t : List ℕ) (i : TextLocation) → Numbered c c no_number p → ((q : TextLocation) × (p t i ≡ stop c q)) ↔ ((a : A) (e : TextLocation) → p t i ≡ ok a e → ⊥)
alone {A} {p} c t i n = ((λ (q, k) a e u. (let z : ◌≡◌ {A = ℕ} 0 1 = cc in omega arith)), λ g. go (p t i) refl g)
  where
    go : (r : Result A) → p t i ≡ r → ((a : A) (e : TextLocation) → p t i ≡ ok a e → ⊥) → (q : TextLocation) × (p t i ≡ stop c q)
    go (ok a e) u g = absurd (g a e u)
    go (stop d e) u g = let z : d ≡ c = omega (arith, placed-number n t i d e u) in (e, u ∙ ap (λ (k : ℕ). stop k e) z)
    go (bad d e) u g = absurd (untold n t i d e refl u)

-- ---- a test without a place

pub need-none : {A B : Type 0} (o : Option A) (f : A → Reader B) (c : ℕ) (t : List ℕ) (i : TextLocation) → ((a : A) → Quiet c (f a)) → ((q : TextLocation) × ((need c o >>= f) t i ≡ bad c q)) ↔ (o ≡ none)
unfolding ◌>>=◌ need
need-none {A} {B} o f c t i n = go o
  where
    go : (o : Option A) → ((q : TextLocation) × (then (need c o t i) (λ a e. f a t e) ≡ bad c q)) ↔ (o ≡ none)
    go none = ((λ q. refl), λ q. (i, refl))
    go (some a) = ((λ (q, u). absurd ((n a).quiet t i q u)), λ q. (let z : ◌≡◌ {A = ℕ} 0 1 = cc in absurd (omega arith)))

-- with whatever number it has
pub need-told : {A B : Type 0} (o : Option A) (f : A → Reader B) (d c : ℕ) (t : List ℕ) (i : TextLocation) → ((a : A) → Quiet c (f a)) → ((q : TextLocation) × ((need d o >>= f) t i ≡ bad c q)) ↔ ((o ≡ none) × (d ≡ c))
unfolding ◌>>=◌ need
need-told {A} {B} o f d c t i n = go o
  where
    go : (o : Option A) → ((q : TextLocation) × (then (need d o t i) (λ a e. f a t e) ≡ bad c q)) ↔ ((o ≡ none) × (d ≡ c))
    go none = ((λ (q, u). (refl, cc)), λ (u, v). (i, rw v))
    go (some a) = ((λ (q, u). absurd ((n a).quiet t i q u)), λ (u, v). (let z : ◌≡◌ {A = ℕ} 0 1 = cc in absurd (omega arith)))

pub need-some : {A B : Type 0} (o : Option A) (f : A → Reader B) (d c : ℕ) (t : List ℕ) (i : TextLocation) → (d ≡ c → ⊥) → ((q : TextLocation) × ((need d o >>= f) t i ≡ bad c q)) ↔ ((a : A) × (o ≡ some a) × ((q : TextLocation) × (f a t i ≡ bad c q)))
unfolding ◌>>=◌ need
need-some {A} {B} o f d c t i k = go o
  where
    go : (o : Option A) → ((q : TextLocation) × (then (need d o t i) (λ a e. f a t e) ≡ bad c q)) ↔ ((a : A) × (o ≡ some a) × ((q : TextLocation) × (f a t i ≡ bad c q)))
    go none = ((λ (q, u). (let z : d ≡ c = cc in absurd (k z))), λ (a, u, v). (let z : ◌≡◌ {A = ℕ} 0 1 = cc in absurd (omega arith)))
    go (some a) = ((λ (q, u). (a, refl, (q, u))), λ (b, u, (q, v)). (let z : a ≡ b = cc in (q, rw z v)))

-- ---- one word after another

pub at_both : (K L : Lang) (t : List ℕ) (i m e : TextLocation) → At K Any t i m → At L Any t m e → At (K · L) Any t i e
unfolding ◌·◌ Any
at_both K L t i m e (u, r, d, k, a, q) (v, s, c, l, b, o) =
    let z : r ≡ v ++ s = sym (move u r t i d) ∙ ap (rest t) (sym q) ∙ c in
    (u ++ v, s, d ∙ ap (λ (x : List ℕ). u ++ x) z ∙ sym (append_assoc u v s), (u, v, refl, k, l), tt, o ∙ ap (λ (n : TextLocation). past n v) q ∙ sym (past-append i u v))

pub at-parts : (K L : Lang) (t : List ℕ) (i e : TextLocation) → At (K · L) Any t i e → (m : TextLocation) × At K Any t i m × At L Any t m e
unfolding ◌·◌ Any
at-parts K L t i e (w, r, d, (u, v, q, k, l), a, o) =
    let z : rest t i ≡ u ++ (v ++ r) = d ∙ ap (λ (x : List ℕ). x ++ r) q ∙ append_assoc u v r in
    (past i u, (u, v ++ r, z, k, tt, refl), (v, r, move u (v ++ r) t i z, l, tt, o ∙ ap (past i) q ∙ past-append i u v))

-- ---- a reader that gives b, if T b, exactly on the words of L b; and what is made of b

pub read_at : {B : Type 0} {raw : Reader B} {b : B} {T : Type 0} {L : Lang} → Fits raw b T L Any → (t : List ℕ) (i e : TextLocation) → (raw t i ≡ ok b e) ↔ (T × At L Any t i e)
read_at {b = b} h t i e = ((λ q. h.to t i e q), λ (x, (w, r, d, l, f, o)). h.from t i w r x d l f ∙ ap (λ (n : TextLocation). ok b n) (sym o))

module _ {B C : Type 0} (raw : Reader B) (next : B → Reader C) (T : B → Type 0) (L : B → Lang) (fits : (b : B) → Fits raw b (T b) (L b) Any) (c : ℕ) (n : Numbered c c no_number raw) (t : List ℕ) (i : TextLocation) where
  -- its own number: no such word stands there
  pub stage-stop : {lo hi : ℕ} {bare : ℕ → Bool} → ((b : B) → Numbered lo hi bare (next b)) → (lo ≤ c → c ≤ hi → ⊥) → ((q : TextLocation) × ((raw >>= next) t i ≡ stop c q)) ↔ ((b : B) (e : TextLocation) → T b → At (L b) Any t i e → ⊥)
  stage-stop k o = (
    (λ (q, h) b e x l. (alone c t i n).0 (q, (stop-first raw next c t i k o q).0 h) b e ((read_at (fits b) t i e).1 (x, l))),
    λ g. (let (q, h) = (alone c t i n).1 (λ b e u. (let (x, l) = (read_at (fits b) t i e).0 u in g b e x l)) in (q, (stop-first raw next c t i k o q).1 h)),
  )

  -- a number without a place, told of b where Q b
  pub stage-bad : (d : ℕ) (Q : B → Type 0) → Quiet d raw → ((b : B) (m : TextLocation) → ((q : TextLocation) × (next b t m ≡ bad d q)) ↔ Q b) → ((q : TextLocation) × ((raw >>= next) t i ≡ bad d q)) ↔ ((b : B) × (e : TextLocation) × T b × At (L b) Any t i e × Q b)
  stage-bad d Q m k = (
    (λ x. (let (b, e, u, z) = (bad-second raw next d t i m).0 x in let (y, l) = (read_at (fits b) t i e).0 u in (b, e, y, l, (k b e).0 z))),
    λ (b, e, x, l, z). (bad-second raw next d t i m).1 (b, e, (read_at (fits b) t i e).1 (x, l), (k b e).1 z),
  )

-- ---- after a reader that gives a exactly on the words of K a

module _ {A B : Type 0} (pre : Reader A) (f : A → Reader B) (K : A → Lang) (fits : (a : A) → Fits pre a (Unit {0}) (K a) Any) (c : ℕ) (t : List ℕ) (i : TextLocation) where
  pub later-stop : {lo hi : ℕ} {bare : ℕ → Bool} → Numbered lo hi bare pre → (lo ≤ c → c ≤ hi → ⊥) → ((q : TextLocation) × ((pre >>= f) t i ≡ stop c q)) ↔ ((a : A) × (m : TextLocation) × At (K a) Any t i m × ((q : TextLocation) × (f a t m ≡ stop c q)))
  later-stop n o = (
    (λ x. (let (a, m, u, z) = (stop-second pre f c t i n o).0 x in (a, m, ((read_at (fits a) t i m).0 u).1, z))),
    λ (a, m, l, z). (stop-second pre f c t i n o).1 (a, m, (read_at (fits a) t i m).1 (tt, l), z),
  )

  pub later-bad : Quiet c pre → ((q : TextLocation) × ((pre >>= f) t i ≡ bad c q)) ↔ ((a : A) × (m : TextLocation) × At (K a) Any t i m × ((q : TextLocation) × (f a t m ≡ bad c q)))
  later-bad n = (
    (λ x. (let (a, m, u, z) = (bad-second pre f c t i n).0 x in (a, m, ((read_at (fits a) t i m).0 u).1, z))),
    λ (a, m, l, z). (bad-second pre f c t i n).1 (a, m, (read_at (fits a) t i m).1 (tt, l), z),
  )

-- it ends at one place only
pub one_end : {A : Type 0} {p : Reader A} {a : A} {K : Lang} → Fits p a (Unit {0}) K Any → (t : List ℕ) (i m n : TextLocation) → At K Any t i m → At K Any t i n → m ≡ n
one_end {A} {p} {a} {K} h t i m n k l =
    let u : p t i ≡ ok a m = (read_at h t i m).1 (tt, k) in
    let v : p t i ≡ ok a n = (read_at h t i n).1 (tt, l) in cc

-- then a line that gives b, if T b, exactly on the words of L a b, with a number of its own; and what is made of b
module _ {A B C : Type 0} (pre : Reader A) (line : A → Reader B) (after : A → B → Reader C) (K : A → Lang) (H : A → Type 0) (T : B → Type 0) (L : A → B → Lang) (fits : (a : A) → Fits pre a (Unit {0}) (K a) Any) (holds : (a : A) (w : List ℕ) → K a w → H a) (fit : (a : A) → H a → (b : B) → Fits (line a) b (T b) (L a b) Any) (c : ℕ) (n : (a : A) → Numbered c c no_number (line a)) (t : List ℕ) (i : TextLocation) where
  -- no such line after that
  pub none_after : (a : A) (m : TextLocation) → At (K a) Any t i m → ((b : B) (e : TextLocation) → T b → At (L a b) Any t m e → ⊥) ↔ ((b : B) (e : TextLocation) → T b → At (K a · L a b) Any t i e → ⊥)
  none_after a m k = (
    (λ g b e x l. (let (j, u, v) = at-parts (K a) (L a b) t i e l in g b e x (rw (one_end (fits a) t i m j k u) v))),
    λ g b e x l. g b e x (at_both (K a) (L a b) t i m e k l),
  )

  pub after_stop : {lo hi : ℕ} {bare : ℕ → Bool} → Numbered lo hi bare pre → (lo ≤ c → c ≤ hi → ⊥) → {lo' hi' : ℕ} {bare' : ℕ → Bool} → ((a : A) (b : B) → Numbered lo' hi' bare' (after a b)) → (lo' ≤ c → c ≤ hi' → ⊥)
      → ((q : TextLocation) × ((pre >>= λ a. line a >>= after a) t i ≡ stop c q)) ↔ ((a : A) × ((e : TextLocation) × At (K a) Any t i e) × ((b : B) (e : TextLocation) → T b → At (K a · L a b) Any t i e → ⊥))
  after_stop np o na u = both_ways (later-stop pre (λ a. line a >>= after a) K fits c t i np o) (
    (λ (a, m, k, x). (a, (m, k), (none_after a m k).0 ((stage-stop (line a) (after a) T (L a) (fit a (holds a k.0 k.3)) c (n a) t m (na a) u).0 x))),
    λ (a, (m, k), g). (a, m, k, (stage-stop (line a) (after a) T (L a) (fit a (holds a k.0 k.3)) c (n a) t m (na a) u).1 ((none_after a m k).1 g)),
  )

  pub after-bad : (d : ℕ) (Q : B → Type 0) → Quiet d pre → ((a : A) → Quiet d (line a)) → ((a : A) (b : B) (m : TextLocation) → ((q : TextLocation) × (after a b t m ≡ bad d q)) ↔ Q b)
      → ((q : TextLocation) × ((pre >>= λ a. line a >>= after a) t i ≡ bad d q)) ↔ ((a : A) × (b : B) × (e : TextLocation) × T b × At (K a · L a b) Any t i e × Q b)
  after-bad d Q np nl k = both_ways (later-bad pre (λ a. line a >>= after a) K fits d t i np) (
    (λ (a, m, u, x). (let (b, e, y, l, z) = (stage-bad (line a) (after a) T (L a) (fit a (holds a u.0 u.3)) c (n a) t m d Q (nl a) (k a)).0 x in (a, b, e, y, at_both (K a) (L a b) t i m e u l, z))),
    λ (a, b, e, y, l, z). (let (m, u, v) = at-parts (K a) (L a b) t i e l in (a, m, u, (stage-bad (line a) (after a) T (L a) (fit a (holds a u.0 u.3)) c (n a) t m d Q (nl a) (k a)).1 (b, e, y, v, z))),
  )

-- at the text's start
pub begun : (L : Lang) (t : List ℕ) → ((e : TextLocation) × At L Any t start e) ↔ Begun L t
unfolding Any
begun L t = ((λ (e, (w, r, d, l, f, o)). (w, r, sym (start-rest t) ∙ d, l)), λ (w, r, d, l). (past start w, (w, r, start-rest t ∙ d, l, tt, refl)))
