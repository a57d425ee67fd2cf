-- A reader fits a language: it gives the value b exactly on the words of L, under a condition X, where what is left of the text is as F says. Laws for putting pieces together; none is about this format.
use Rattle.std.proofs.Math.Path.{◌≡◌, refl}
use Rattle.std.proofs.Common.{sym, ap, ◌∙◌, arith, eq-eqb}
use Rattle.std.specs.Prelude.{◌↔◌, ◌⊎◌, ℕ, Bool, eqb}
use Rattle.std.proofs.Math.Logic.{inl, inr}
use Rattle.std.proofs.Math.Option.{Option, some}
use Rattle.std.proofs.Math.Bool.{true, false}
use mathlib.Core.List.{List, [], ◌∷◌, ◌++◌, append-nil, append_assoc}
use Rattle.text.specs.declared.TextLocation.{TextLocation}
use Rattle.text.specs.Place.{rest, after, past}
use Rattle.text.specs.Reader.{ok, end_of, Reader, ◌>>=◌}
use Rattle.text.specs.Leaf.{give, want, need, fork, fork_of, choose}
use Rattle.grammar.proofs.Bind.{bind-case, bind_ok, past-append, move}
use Rattle.grammar.specs.Lang.{Lang, Word, ◌·◌, ◌∣◌}
use Rattle.grammar.proofs.Tests.{need-inv, want-inv}

-- what is left of a text: anything; nothing; no byte of class g to begin with; the byte x to begin with
abbrev pub Follow : Type 1
Follow = List ℕ → Type 0

unfoldable pub Any : Follow
Any r = Unit {0}

unfoldable pub End : Follow
End r = r ≡ []

unfoldable pub Off : (ℕ → Bool) → Follow
Off g [] = Unit {0}
Off g (x ∷ r) = g x ≡ false

unfoldable pub Next : ℕ → Follow
Next x [] = ⊥
Next x (y ∷ r) = y ≡ x

-- at place i the word w stands, and then r
abbrev pub Here : List ℕ → TextLocation → List ℕ → List ℕ → Type 0
Here t i w r = rest t i ≡ w ++ r

abbrev pub At : Lang → Follow → List ℕ → TextLocation → TextLocation → Type 0
At L F t i e = (w : List ℕ) × (r : List ℕ) × Here t i w r × L w × F r × (e ≡ past i w)

pub record Fits {A : Type 0} (q : Reader A) (b : A) (X : Type 0) (L : Lang) (F : Follow) : Type 0 where
  pub to : (t : List ℕ) (i e : TextLocation) → q t i ≡ ok b e → X × At L F t i e
  pub from : (t : List ℕ) (i : TextLocation) (w r : List ℕ) → X → Here t i w r → L w → F r → q t i ≡ ok b (past i w)

-- as one statement, for a piece that no condition holds up
pub says : {A : Type 0} {q : Reader A} {b : A} {L : Lang} {F : Follow} → Fits q b (Unit {0}) L F → (t : List ℕ) (i e : TextLocation) → (q t i ≡ ok b e) ↔ At L F t i e
says {b = b} h t i e = ((λ q. (h.to t i e q).1), λ (w, r, d, l, f, o). h.from t i w r tt d l f ∙ ap (λ (n : TextLocation). ok b n) (sym o))

-- THE FOLLOW CONDITION: a word of L, and then what G allows, is what F allows
pub record Begins (F : Follow) (L : Lang) (G : Follow) : Type 0 where
  pub begins : (v r : List ℕ) → L v → G r → F (v ++ r)

-- the same words under the same condition
pub fit_same : {A : Type 0} {q : Reader A} {b : A} {X Y : Type 0} {K L : Lang} {F : Follow} → ((w : List ℕ) → (X × K w) ↔ (Y × L w)) → Fits q b X K F → Fits q b Y L F
fit_same s h = record {
  to = λ t i e q. (let (x, (w, r, d, k, f, o)) = h.to t i e q in let (y, l) = (s w).0 (x, k) in (y, (w, r, d, l, f, o)));
  from = λ t i w r y d l f. (let (x, k) = (s w).1 (y, l) in h.from t i w r x d k f);
}

pub fit-when : {A : Type 0} {q : Reader A} {b : A} {X Y : Type 0} {K : Lang} {F : Follow} → (X ↔ Y) → Fits q b X K F → Fits q b Y K F
fit-when e h = fit_same (λ w. ((λ (x, k). (e.0 x, k)), λ (y, k). (e.1 y, k))) h

pub fit-drop : {A : Type 0} {q : Reader A} {b : A} {X : Type 0} {K : Lang} {F : Follow} → Fits q b (Unit {0} × X) K F → Fits q b X K F
fit-drop h = fit-when ((λ x. x.1), λ x. (tt, x)) h

need-ok : {A : Type 0} (c : ℕ) (o : Option A) (t : List ℕ) (i : TextLocation) (a : A) → o ≡ some a → need c o t i ≡ ok a i
unfolding need
need-ok c o t i a q = rw q

want-ok : {A : Type 0} (c : ℕ) (o : Option A) (t : List ℕ) (i : TextLocation) (a : A) → o ≡ some a → want c o t i ≡ ok a i
unfolding want
want-ok c o t i a q = rw q

-- ---- one piece after another

join : (K : Lang) {L : Lang} {G : Follow} (t : List ℕ) (i m e : TextLocation) (u r : List ℕ) → Here t i u r → K u → m ≡ past i u → At L G t m e → At (K · L) G t i e
unfolding ◌·◌
join K t i m e u r d k q (v, s, c, l, g, o) =
    let z : r ≡ v ++ s = sym (move u r t i d) ∙ ap (rest t) (sym q) ∙ c in
    (u ++ v, s, d ∙ ap (λ (x : List ℕ). u ++ x) z ∙ sym (append_assoc u v s), (u, v, refl, k, l), g, o ∙ ap (λ (n : TextLocation). past n v) q ∙ sym (past-append i u v))

-- a word in two parts, for the two readers
part : {K L : Lang} {A B : Type 0} {b : B} (p : Reader A) (f : A → Reader B) (t : List ℕ) (i : TextLocation) (w r : List ℕ) → Here t i w r → (K · L) w
    → ((u v : List ℕ) → Here t i u (v ++ r) → Here t (past i u) v r → K u → L v → (a : A) × (p t i ≡ ok a (past i u)) × (f a t (past i u) ≡ ok b (past (past i u) v))) → (p >>= f) t i ≡ ok b (past i w)
unfolding ◌·◌
part {b = b} p f t i w r d (u, v, q, k, l) h =
    let z : Here t i u (v ++ r) = d ∙ ap (λ (x : List ℕ). x ++ r) q ∙ append_assoc u v r in
    let (a, x, y) = h u v z (move u (v ++ r) t i z) k l in
    bind_ok p f t i a (past i u) x ∙ y ∙ ap (λ (n : TextLocation). ok b n) (sym (past-append i u v) ∙ ap (past i) (sym q))

-- the first has a value, x; what its words tell is known in the second
pub fit-bind : {A B : Type 0} {p : Reader A} {f : A → Reader B} (x : A) {b : B} {X : Type 0} (J : A → Type 0) (K L : A → Lang) (H : A → Type 0) {F G : Follow} → ((a : A) → Fits p a (J a) (K a) F) → ((a : A) (w : List ℕ) → K a w → H a)
    → Begins F (L x) G → ((a : A) → H a → Fits (f a) b ((a ≡ x) × X) (L a) G) → Fits (p >>= f) b (J x × X) (K x · L x) G
fit-bind {A} {B} {p} {f} x {b} {X} J K L H {F} {G} h g n k = record {
  to = λ t i e q. bind-case p f t i q (λ a m y z. (let (c, (u, r, d, l, o, s)) = (h a).to t i m y in two t i m e a u r c d l s ((k a (g a u l)).to t m e z)));
  from = λ t i w r c d l o. part p f t i w r d l (λ u v y z j s. (x, (h x).from t i u (v ++ r) c.0 y j (n.begins v r s o), (k x (g x u j)).from t (past i u) v r (refl, c.1) z s o));
}
  where
    two : (t : List ℕ) (i m e : TextLocation) (a : A) (u r : List ℕ) → J a → Here t i u r → K a u → m ≡ past i u → ((a ≡ x) × X) × At (L a) G t m e → (J x × X) × At (K x · L x) G t i e
    two t i m e a u r c d l s y = ((rw y.0.0 at c, y.0.1), join (K x) t i m e u r d (rw y.0.0 at l) s (rw y.0.0 at y.1))

-- the first has none
module _ {B : Type 0} {b : B} {X : Type 0} {L : Lang} {G : Follow} where
  pub fit-run : {p : Reader (Unit {0})} {f : Unit {0} → Reader B} {K : Lang} {F : Follow} → Fits p tt (Unit {0}) K F → Begins F L G → ((a : Unit {0}) → Fits (f a) b X L G) → Fits (p >>= f) b X (K · L) G
  fit-run {K = K} h n k = fit-drop (fit-bind tt (λ a. Unit {0}) (λ a. K) (λ a. L) (λ a. Unit {0}) (λ a. h) (λ a w l. tt) n (λ a u. fit-when ((λ x. (refl, x)), λ x. x.1) (k a)))

  pub fit_then : {p : Reader (Unit {0})} {f : Unit {0} → Reader B} {K : Lang} → Fits p tt (Unit {0}) K Any → ((a : Unit {0}) → Fits (f a) b X L G) → Fits (p >>= f) b X (K · L) G
  unfolding Any
  fit_then h k = fit-run h (record { begins = λ v r l g. tt }) k

  -- a test that takes nothing
  pub fit-need : {A : Type 0} (c : ℕ) (o : Option A) {f : A → Reader B} → (X → (a : A) × (o ≡ some a)) → ((a : A) → o ≡ some a → Fits (f a) b X L G) → Fits (need c o >>= f) b X L G
  fit-need {A} c o {f} d k = record {
    to = λ t i e q. bind-case (need c o) f t i q (λ a m u v. (let (x, y) = need-inv c o t i a m u in (k a x).to t i e (rw y at v)));
    from = λ t i w r x h l g. (let (a, q) = d x in bind_ok (need c o) f t i a i (need-ok c o t i a q) ∙ (k a q).from t i w r x h l g);
  }

  pub fit-want : {A : Type 0} (c : ℕ) (o : Option A) {f : A → Reader B} → (X → (a : A) × (o ≡ some a)) → ((a : A) → o ≡ some a → Fits (f a) b X L G) → Fits (want c o >>= f) b X L G
  fit-want {A} c o {f} d k = record {
    to = λ t i e q. bind-case (want c o) f t i q (λ a m u v. (let (x, y) = want-inv c o t i a m u in (k a x).to t i e (rw y at v)));
    from = λ t i w r x h l g. (let (a, q) = d x in bind_ok (want c o) f t i a i (want-ok c o t i a q) ∙ (k a q).from t i w r x h l g);
  }

  -- a token is its own value; K says of it what the second tests
  pub fit-token : {p : Reader (List ℕ)} {f : List ℕ → Reader B} {K : Lang} {J : List ℕ → Type 0} {F : Follow} → ((w : List ℕ) → Fits p w (J w) (Word w) F) → Begins F L G → ((w : List ℕ) → K w → J w) → ((w : List ℕ) → J w → Fits (f w) b (K w × X) L G)
      → Fits (p >>= f) b X (K · L) G
  unfolding Word
  fit-token {p} {f} {K} {J} {F} h n d k = record {
    to = λ t i e q. bind-case p f t i q (λ a m y z. (let (c, (u, r, x, l, o, s)) = (h a).to t i m y in let (j, v) = (k a c).to t m e z in (j.1, join K t i m e u r x (rw l j.0) s v)));
    from = λ t i w r c x l o. part p f t i w r x l (λ u v y z j s. (u, (h u).from t i u (v ++ r) (d u j) y refl (n.begins v r s o), (k u (d u j)).from t (past i u) v r (j, c) z s o));
  }

-- ---- the end of a chain: nothing more is taken

pub fit-test : {A : Type 0} {q : Reader A} {b : A} {X : Type 0} → ((t : List ℕ) (i e : TextLocation) → (q t i ≡ ok b e) ↔ (X × (e ≡ i))) → Fits q b X (Word []) Any
unfolding Word Any
fit-test s = record {
  to = λ t i e q. (let (x, o) = (s t i e).0 q in (x, ([], rest t i, refl, refl, tt, o)));
  from = λ t i w r x d l g. (s t i (past i w)).1 (x, ap (past i) l);
}

pub fit-give : {A : Type 0} (a : A) {b : A} {X : Type 0} → (X ↔ (a ≡ b)) → Fits (give a) b X (Word []) Any
unfolding give
fit-give a {b} x = fit-test (λ t i e. ((λ q. (x.1 cc, sym (ap end_of q))), λ (y, o). cc (x.0 y, o)))

pub fit-needed : {A : Type 0} (c : ℕ) (o : Option A) {b : A} {X : Type 0} → (X ↔ (o ≡ some b)) → Fits (need c o) b X (Word []) Any
unfolding need
fit-needed c o {b} x = fit-test (λ t i e. ((λ q. (let (y, z) = need-inv c o t i b e q in (x.1 y, z))), λ (y, z). rw (x.0 y, z)))

-- a piece with a value and then such an end
pub fit-last : {A B : Type 0} {p : Reader A} {f : A → Reader B} (x : A) {b : B} {X : Type 0} (J : A → Type 0) (K : A → Lang) {F : Follow} → ((a : A) → Fits p a (J a) (K a) F) → ((a : A) → Fits (f a) b ((a ≡ x) × X) (Word []) Any) → Fits (p >>= f) b (J x × X) (K x) F
unfolding Word Any
fit-last {A} {B} {p} {f} x {b} {X} J K {F} h k = record {
  to = λ t i e q. bind-case p f t i q (λ a m y z. two t i m e a ((h a).to t i m y) ((k a).to t m e z));
  from = λ t i w r c d l g. bind_ok p f t i x (past i w) ((h x).from t i w r c.0 d l g) ∙ (k x).from t (past i w) [] (rest t (past i w)) (refl, c.1) refl refl tt;
}
  where
    two : (t : List ℕ) (i m e : TextLocation) (a : A) → J a × At (K a) F t i m → ((a ≡ x) × X) × At (Word []) Any t m e → (J x × X) × At (K x) F t i e
    two t i m e a (c, (u, r, d, l, o, s)) (y, (v, z, n, j, g, q)) = let j' : v ≡ [] = j in ((rw y.0 at c, y.1), (u, r, d, rw y.0 at l, o, q ∙ ap (past m) j' ∙ s))

pub fit-done : {B : Type 0} {p : Reader (Unit {0})} {f : Unit {0} → Reader B} {b : B} {X : Type 0} {K : Lang} {F : Follow} → Fits p tt (Unit {0}) K F → ((a : Unit {0}) → Fits (f a) b X (Word []) Any) → Fits (p >>= f) b X K F
fit-done {K = K} h k = fit-drop (fit-last tt (λ a. Unit {0}) (λ a. K) (λ a. h) (λ a. fit-when ((λ x. (refl, x)), λ x. x.1) (k a)))

pub fit-end : {A : Type 0} {q : Reader A} {b : A} {X : Type 0} {K : Lang} {F : Follow} → Fits q b X (K · Word []) F → Fits q b X K F
unfolding ◌·◌ Word
fit-end h = fit_same (λ w. ((λ (x, (u, v, q, k, l)). (x, rw (q, l, append-nil u) k)), λ (x, k). (x, (w, [], sym (append-nil w), k, refl)))) h

-- the first two pieces read by one reader
pub fit-assoc : {A : Type 0} {q : Reader A} {b : A} {X : Type 0} (J K L : Lang) {F : Follow} → Fits q b X ((J · K) · L) F → Fits q b X (J · K · L) F
unfolding ◌·◌
fit-assoc J K L h =
    fit_same (λ w. ((λ (x, (s, v, q, (t, u, p, j, k), l)). (x, (t, u ++ v, q ∙ ap (λ (y : List ℕ). y ++ v) p ∙ append_assoc t u v, j, (u, v, refl, k, l)))), λ (x, (t, s, q, j, (u, v, p, k, l))). (x, (t ++ u, v, q ∙ ap (λ (y : List ℕ). t ++ y) p ∙ sym (append_assoc t u v), (t, u, refl, j, k), l)))) h

-- ---- a look at the next byte

module _ {A : Type 0} (c x : ℕ) {p : Reader A} (y : ℕ) {q : Reader A} {b : A} {F : Follow} where
  pub fit-fork : {X Y Z : Type 0} {K L M : Lang} → eqb y x ≡ false → Begins (Next x) K F → Begins (Next y) L F → Fits p b X K F → Fits q b Y L F → ((w : List ℕ) → ((X × K w) ⊎ (Y × L w)) ↔ (Z × M w)) → Fits (fork c x p y q) b Z M F
  unfolding fork Next
  fit-fork {X} {Y} {Z} {K} {L} {M} ne bk bl hp hq m = record {
    to = λ t i e k. at t i e (rest t i) k;
    from = λ t i w r z d l g. back t i w r d g ((m w).1 (z, l));
  }
    where
      chosen : (t : List ℕ) (i e n : TextLocation) (d z : Bool) → choose c n p q d z t i ≡ ok b e → Z × At M F t i e
      chosen t i e n true z k = let (n0, (w, r, d, l, g, o)) = hp.to t i e k in let (j, s) = (m w).0 (inl (n0, l)) in (j, (w, r, d, s, g, o))
      chosen t i e n false true k = let (n0, (w, r, d, l, g, o)) = hq.to t i e k in let (j, s) = (m w).0 (inr (n0, l)) in (j, (w, r, d, s, g, o))
      chosen t i e n false false k = let z : ◌≡◌ {A = ℕ} 0 1 = cc in absurd (omega arith)

      at : (t : List ℕ) (i e : TextLocation) (o : List ℕ) → fork_of c x p y q o t i ≡ ok b e → Z × At M F t i e
      at t i e [] k = let z : ◌≡◌ {A = ℕ} 0 1 = cc in absurd (omega arith)
      at t i e (a ∷ l) k = chosen t i e (after a i) (eqb a x) (eqb a y) k

      first : (n : ℕ) (l : List ℕ) → Next n l → (k : List ℕ) × (l ≡ n ∷ k)
      first n [] k = absurd k
      first n (z ∷ l) k = (l, ap (λ (j : ℕ). j ∷ l) k)

      back : (t : List ℕ) (i : TextLocation) (w r : List ℕ) → Here t i w r → F r → (X × K w) ⊎ (Y × L w) → fork_of c x p y q (rest t i) t i ≡ ok b (past i w)
      back t i w r d g (inl (z, k)) = let (l, e) = first x (w ++ r) (bk.begins w r k g) in rw (d ∙ e, eq-eqb x x refl) (hp.from t i w r z d k g)
      back t i w r d g (inr (z, k)) = let (l, e) = first y (w ++ r) (bl.begins w r k g) in rw (d ∙ e, ne, eq-eqb y y refl) (hq.from t i w r z d k g)

  pub fit-either : {K L : Lang} → eqb y x ≡ false → Begins (Next x) K F → Begins (Next y) L F → Fits p b (Unit {0}) K F → Fits q b (Unit {0}) L F → Fits (fork c x p y q) b (Unit {0}) (K ∣ L) F
  unfolding ◌∣◌
  fit-either {K} {L} ne bk bl hp hq = fit-fork ne bk bl hp hq (λ w. (there w, back w))
    where
      there : (w : List ℕ) → ((Unit {0} × K w) ⊎ (Unit {0} × L w)) → Unit {0} × (K w ⊎ L w)
      there w (inl k) = (tt, inl k.1)
      there w (inr k) = (tt, inr k.1)

      back : (w : List ℕ) → Unit {0} × (K w ⊎ L w) → (Unit {0} × K w) ⊎ (Unit {0} × L w)
      back w (x, inl k) = inl (tt, k)
      back w (x, inr k) = inr (tt, k)
