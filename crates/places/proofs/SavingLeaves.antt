-- The leaves and the lexical rules can be saved.
use Rattle.std.specs.Prelude.{◌≡◌, refl, Bool, true, false, List, [], ◌∷◌, eqb}
use Rattle.std.proofs.Common.{sym, ap, ◌∙◌, arith, eq-eqb, eqb-true}
use Prim.Native.Nat.{ℕ, suc, ◌≤◌, ◌<◌}
use Rattle.std.proofs.Math.Option.{Option, none, some}
use Rattle.std.proofs.Math.Decide.{dec_lt}
use Rattle.text.specs.declared.TextLocation.{TextLocation}
use Rattle.text.specs.Place.{byte_of, rest, after}
use Rattle.text.specs.Rest.{here}
use Rattle.text.specs.Reader.{ok, stop, Reader, ◌>>◌, Same, Firm, Grows, Settled}
use Rattle.text.specs.Leaf.{give, one, first, judge, eot, end_if, fork, fork_of, choose, Alike, heads}
use Rattle.text.proofs.Leaf.{give-local, one_local, one_grows, eot-local, fork-local, fork-firm, fork-grows}
use Rattle.lexical.specs.Lexical.{is, byte, skip, fixed, gap, line_end, is_blank}
use Rattle.lexical.proofs.Lexical.{skip-local}
use Rattle.grammar.specs.Lang.{Lang, Word, Many, All}
use Rattle.grammar.specs.Grammar.{solid}
use Rattle.grammar.proofs.Fits.{Follow, Any, End, Off, Next}
use Rattle.grammar.proofs.Pieces.{one-fits, skip-fits, end_fits, blank-is, solid-blank}
use Rattle.claims.proofs.Numbers.{no_number, skip-numbered, placed-number}
use Rattle.places.proofs.Sharp.{same_next}
use Rattle.places.proofs.Saving.{Good, Way, Left, wrong, finished, Saved, Open, fits-keep, word-way, bind-open, same-trans, at-end}

pub no-growth : {A : Type 0} {p : Reader A} → Grows p → (t : List ℕ) (i : TextLocation) (a : A) → p t i ≡ ok a i → ⊥
no-growth {A} {p} g t i a q =
    let h : Settled {A = A} (ok a i) → byte_of i < byte_of i = rw q at (g.grows t i) in
    omega (arith, h tt)

pub next-off : (g : ℕ → Bool) (x : ℕ) → g x ≡ false → (r : List ℕ) → Next x r → Off g r
unfolding Next Off
next-off g x q [] k = absurd k
next-off g x q (y ∷ r) k = rw k q

pub give-open : {A : Type 0} (a : A) {F G : Follow} → ((r : List ℕ) → F r → G r) → Open (give a) F G
unfolding give
give-open a k = record {
  able = record {
    local = give-local a;
    keeps = λ t u i b m q s h. q;
    empty = λ t i b q h. k (rest t i) h;
    can = λ t i g. record { text = t; value = a; end = i; same = λ j l. refl; far = omega arith; reach = here; inside = g.inside; reads = λ u s h. refl; begins = λ z u s h. k (rest u i) h };
  };
  saves = λ t i c e g q. (let z : ◌≡◌ {A = ℕ} 0 1 = cc in absurd (omega arith));
}

pub one-open : {A : Type 0} (c : ℕ) (g : ℕ → Option A) (x : ℕ) (a : A) {F G : Follow} → g x ≡ some a → ((r : List ℕ) → G (x ∷ r)) → Open (one c g) F G
unfolding one Any after
one-open {A} c g x a {F} {G} q k = record {
  able = record {
    local = one_local c g;
    keeps = fits-keep {F = F} (λ b. Unit {0}) W (one-fits c g) (λ r h. tt);
    empty = λ t i b z h. absurd (no-growth (one_grows c g) t i b z);
    can = able;
  };
  saves = λ t i d e o z. go t i d e o (rest t i) refl z;
}
  where
    W : A → Lang
    W b w = (y : ℕ) × (w ≡ y ∷ []) × (g y ≡ some b)

    able : (t : List ℕ) (i : TextLocation) → Good t i → Way (one c g) F G t i (byte_of i)
    able t i o = word-way (λ b. Unit {0}) W (one-fits c g) (λ r h. tt) a (x ∷ []) tt (x, refl, q) (λ r h. k r) t i o

    same : (b : ℕ) (l m : List ℕ) (i : TextLocation) → Alike (b ∷ l) m → first c g m i ≡ judge c (g b) (after b i)
    same b l m i heads = refl

    two : (t : List ℕ) (i : TextLocation) (d : ℕ) (e : TextLocation) → Good t i → (b : ℕ) (l : List ℕ) → rest t i ≡ b ∷ l → (v : Option A) → g b ≡ v → judge c v (after b i) ≡ stop d e → Saved (λ t i. first c g (rest t i) i) F G t i d e
    two t i d e o b l y (some a) w z = let n : ◌≡◌ {A = ℕ} 0 1 = cc in absurd (omega arith)
    two t i d e o b l y none w z =
        let n : after b i ≡ e = cc in
        let m : suc (byte_of i) ≡ byte_of e = omega (arith, ap byte_of n) in
        (byte_of i, omega arith, wrong m (λ u s. same b l (rest u i) i (rw y at (same_next t u i (byte_of e) s (omega arith))) ∙ ap (λ (v : Option A). judge c v (after b i)) w ∙ z), able t i o)

    go : (t : List ℕ) (i : TextLocation) (d : ℕ) (e : TextLocation) → Good t i → (l : List ℕ) → rest t i ≡ l → first c g l i ≡ stop d e → Saved (λ t i. first c g (rest t i) i) F G t i d e
    go t i d e o [] y z = let n : i ≡ e = cc in (byte_of i, omega arith, finished (ap byte_of n) (sym (ap byte_of n) ∙ at-end t i o y), able t i o)
    go t i d e o (b ∷ l) y z = two t i d e o b l y (g b) refl z

pub byte-open : (c : ℕ) (class : ℕ → Bool) (x : ℕ) {F G : Follow} → class x ≡ true → ((r : List ℕ) → G (x ∷ r)) → Open (byte c class) F G
unfolding byte
byte-open c class x q k = one-open c _ x tt (rw q) k

pub skip-open : (class : ℕ → Bool) {F : Follow} → ((r : List ℕ) → F r → Off class r) → Open (skip class) F F
unfolding Many
skip-open class {F} k = record {
  able = record {
    local = skip-local class;
    keeps = fits-keep {F = F} (λ b. Unit {0}) (λ b. Many class) (λ b. skip-fits class) k;
    empty = λ t i a q h. h;
    can = λ t i g. word-way (λ b. Unit {0}) (λ b. Many class) (λ b. skip-fits class) k tt [] tt tt (λ r h. h) t i g;
  };
  saves = λ t i c e g q. absurd (omega (arith, placed-number (skip-numbered {lo = 1} {hi = 0} {bare = no_number} class) t i c e q));
}

-- ---- lexical rules

pub fixed-any : (c : ℕ) (w : List ℕ) {F : Follow} → Open (fixed c w) F Any
unfolding fixed Any
fixed-any c [] = give-open tt (λ r h. tt)
fixed-any c (x ∷ w) = bind-open (byte-open c (is x) x (eq-eqb x x refl) (λ r. tt)) (λ a. fixed-any c w)

pub fixed-open : (c x : ℕ) (w : List ℕ) {F G : Follow} → ((r : List ℕ) → G (x ∷ r)) → Open (fixed c (x ∷ w)) F G
unfolding fixed
fixed-open c x w k = bind-open (byte-open c (is x) x (eq-eqb x x refl) k) (λ a. fixed-any c w)

pub gap-open : (c : ℕ) {F G : Follow} → ((r : List ℕ) → F r → Off is_blank r) → ((r : List ℕ) → G (32 ∷ r)) → Open (gap c) F G
unfolding gap is_blank
gap-open c k b = bind-open (byte-open c is_blank 32 refl b) (λ a. skip-open is_blank k)

pub line_end-open : (c : ℕ) {F : Follow} → Open (line_end c) F (Next 10)
unfolding line_end is_blank Next
line_end-open c = bind-open (skip-open is_blank (next-off is_blank 10 refl)) (λ a. byte-open c (is 10) 10 refl (λ r. refl))

-- a name, and then `_`
pub name-open : (c : ℕ) (name : List ℕ) → All solid name → Open (fixed c name) (Next 95) (Off is_blank)
unfolding fixed is_blank
name-open c [] s = give-open tt (next-off is_blank 95 refl)
name-open c (x ∷ w) s = fixed-first c x w (λ r. solid-head x r s.0)
  where
    solid-head : (x : ℕ) (r : List ℕ) → solid x ≡ true → Off is_blank (x ∷ r)
    solid-head x r q = unfold Off in (ap (λ (f : ℕ → Bool). f x) blank-is ∙ solid-blank x q)

    fixed-first : (c x : ℕ) (w : List ℕ) {F G : Follow} → ((r : List ℕ) → G (x ∷ r)) → Open (byte c (is x) >> fixed c w) F G
    fixed-first c x w k = bind-open (byte-open c (is x) x (eq-eqb x x refl) k) (λ a. fixed-any c w)

-- ---- the end of the text

pub eot-open : (c : ℕ) → Open (eot c) End End
unfolding eot Word End after
eot-open c = record {
  able = record {
    local = eot-local c;
    keeps = fits-keep {F = End} (λ b. Unit {0}) (λ b. Word []) (λ b. end_fits c) (λ r h. h);
    empty = λ t i a q h. h;
    can = able;
  };
  saves = λ t i d e g q. go t i d e g (rest t i) refl q;
}
  where
    able : (t : List ℕ) (i : TextLocation) → Good t i → Way (eot c) End End t i (byte_of i)
    able t i g = word-way (λ b. Unit {0}) (λ b. Word []) (λ b. end_fits c) (λ r h. h) tt [] tt refl (λ r h. h) t i g

    same : (b : ℕ) (l m : List ℕ) (i : TextLocation) → Alike (b ∷ l) m → end_if c m i ≡ stop c (after b i)
    same b l m i heads = refl

    go : (t : List ℕ) (i : TextLocation) (d : ℕ) (e : TextLocation) → Good t i → (l : List ℕ) → rest t i ≡ l → end_if c l i ≡ stop d e → Saved (λ t i. end_if c (rest t i) i) End End t i d e
    go t i d e g [] y q = let z : ◌≡◌ {A = ℕ} 0 1 = cc in absurd (omega arith)
    go t i d e g (b ∷ l) y q =
        let n : after b i ≡ e = cc in
        let m : suc (byte_of i) ≡ byte_of e = omega (arith, ap byte_of n) in
        (byte_of i, omega arith, wrong m (λ u s. same b l (rest u i) i (rw y at (same_next t u i (byte_of e) s (omega arith))) ∙ q), able t i g)

-- ---- a look at the next byte

pub fork-open : {A : Type 0} (c x : ℕ) {p : Reader A} (y : ℕ) {q : Reader A} {F G : Follow} → Open p F (Next x) → Open q F (Next y) → Grows p → Grows q → Firm p → Firm q → ((r : List ℕ) → G (x ∷ r)) → ((r : List ℕ) → G (y ∷ r)) → eqb y x ≡ false → Open (fork c x p y q) F G
unfolding fork after Next
fork-open {A} c x {p} y {q} {F} {G} hp hq gp gq fp fq kx ky ne = record {
  able = record {
    local = fork-local c x y hp.able.local hq.able.local;
    keeps = λ t u i a m z s h. (fork-firm c x y gp gq fp fq).firm t u i (rw z tt) (λ j b. s j (rw z at b)) ∙ z;
    empty = λ t i a z h. absurd (no-growth (fork-grows c x y gp gq) t i a z);
    can = able;
  };
  saves = λ t i d e g z. go t i d e g (rest t i) refl z;
}
  where
    on-x : (l u : List ℕ) (i : TextLocation) → Next x l → fork_of c x p y q l u i ≡ p u i
    on-x [] u i k = absurd k
    on-x (b ∷ l) u i k = rw (eq-eqb b x k)

    on-y : (l u : List ℕ) (i : TextLocation) → Next y l → fork_of c x p y q l u i ≡ q u i
    on-y [] u i k = absurd k
    on-y (b ∷ l) u i k = rw (ap (λ (n : ℕ). eqb n x) k ∙ ne, eq-eqb b y k)

    to-x : (l : List ℕ) → Next x l → G l
    to-x [] k = absurd k
    to-x (b ∷ l) k = rw k (kx l)

    to-y : (l : List ℕ) → Next y l → G l
    to-y [] k = absurd k
    to-y (b ∷ l) k = rw k (ky l)

    kept : (z b : ℕ) (l m : List ℕ) → b ≡ z → Alike (b ∷ l) m → Next z m
    kept z b l m k heads = k

    -- what saves a branch saves the whole
    lift-x : (t : List ℕ) (i : TextLocation) (n : ℕ) → ((u : List ℕ) → Same t u n → byte_of i < n → Next x (rest u i)) → byte_of i ≤ n → Way p F (Next x) t i n → Way (λ t i. fork_of c x p y q (rest t i) t i) F G t i n
    lift-x t i n k l w = record {
      text = w.text;
      value = w.value;
      end = w.end;
      same = w.same;
      far = w.far;
      reach = w.reach;
      inside = w.inside;
      reads = λ u s h. on-x (rest u i) u i (is_x u s h (dec_lt (byte_of i) n)) ∙ w.reads u s h;
      begins = λ z u s h. to-x (rest u i) (w.begins z u s h);
    }
      where
        is_x : (u : List ℕ) → Same w.text u (byte_of w.end) → F (rest u w.end) → Dec (byte_of i < n) → Next x (rest u i)
        is_x u s h (yes o) = k u (same-trans t w.text u w.same s w.far) o
        is_x u s h (no o) = w.begins (omega arith) u s h

    lift-y : (t : List ℕ) (i : TextLocation) (n : ℕ) → ((u : List ℕ) → Same t u n → byte_of i < n → Next y (rest u i)) → byte_of i ≤ n → Way q F (Next y) t i n → Way (λ t i. fork_of c x p y q (rest t i) t i) F G t i n
    lift-y t i n k l w = record {
      text = w.text;
      value = w.value;
      end = w.end;
      same = w.same;
      far = w.far;
      reach = w.reach;
      inside = w.inside;
      reads = λ u s h. on-y (rest u i) u i (is_y u s h (dec_lt (byte_of i) n)) ∙ w.reads u s h;
      begins = λ z u s h. to-y (rest u i) (w.begins z u s h);
    }
      where
        is_y : (u : List ℕ) → Same w.text u (byte_of w.end) → F (rest u w.end) → Dec (byte_of i < n) → Next y (rest u i)
        is_y u s h (yes o) = k u (same-trans t w.text u w.same s w.far) o
        is_y u s h (no o) = w.begins (omega arith) u s h

    able : (t : List ℕ) (i : TextLocation) → Good t i → Way (λ t i. fork_of c x p y q (rest t i) t i) F G t i (byte_of i)
    able t i g = lift-x t i (byte_of i) (λ u s l. absurd (omega arith)) (omega arith) (hp.able.can t i g)

    same_byte : (t u : List ℕ) (i : TextLocation) (n b : ℕ) (l : List ℕ) → rest t i ≡ b ∷ l → Same t u n → byte_of i < n → Alike (b ∷ l) (rest u i)
    same_byte t u i n b l r s o = rw r at (same_next t u i n s o)

    by-x : (t : List ℕ) (i : TextLocation) (d : ℕ) (e : TextLocation) (b : ℕ) (l : List ℕ) → rest t i ≡ b ∷ l → b ≡ x → Saved p F (Next x) t i d e → Saved (λ t i. fork_of c x p y q (rest t i) t i) F G t i d e
    by-x t i d e b l r z (n, o, k, w) = (n, o, left k, lift-x t i n begins o w)
      where
        begins : (u : List ℕ) → Same t u n → byte_of i < n → Next x (rest u i)
        begins u s j = kept x b l (rest u i) z (same_byte t u i n b l r s j)

        left : Left p t i d e n → Left (λ t i. fork_of c x p y q (rest t i) t i) t i d e n
        left (wrong m h) = wrong m (λ u s. on-x (rest u i) u i (kept x b l (rest u i) z (same_byte t u i (byte_of e) b l r s (omega arith))) ∙ h u s)
        left (finished m h) = finished m h

    by-y : (t : List ℕ) (i : TextLocation) (d : ℕ) (e : TextLocation) (b : ℕ) (l : List ℕ) → rest t i ≡ b ∷ l → b ≡ y → Saved q F (Next y) t i d e → Saved (λ t i. fork_of c x p y q (rest t i) t i) F G t i d e
    by-y t i d e b l r z (n, o, k, w) = (n, o, left k, lift-y t i n begins o w)
      where
        begins : (u : List ℕ) → Same t u n → byte_of i < n → Next y (rest u i)
        begins u s j = kept y b l (rest u i) z (same_byte t u i n b l r s j)

        left : Left q t i d e n → Left (λ t i. fork_of c x p y q (rest t i) t i) t i d e n
        left (wrong m h) = wrong m (λ u s. on-y (rest u i) u i (kept y b l (rest u i) z (same_byte t u i (byte_of e) b l r s (omega arith))) ∙ h u s)
        left (finished m h) = finished m h

    neither : (b : ℕ) (l m u : List ℕ) (i : TextLocation) → eqb b x ≡ false → eqb b y ≡ false → Alike (b ∷ l) m → fork_of c x p y q m u i ≡ stop c (after b i)
    neither b l m u i e f heads = rw (e, f) refl

    two : (t : List ℕ) (i : TextLocation) (d : ℕ) (e : TextLocation) → Good t i → (b : ℕ) (l : List ℕ) → rest t i ≡ b ∷ l → (v w : Bool) → eqb b x ≡ v → eqb b y ≡ w → choose c (after b i) p q v w t i ≡ stop d e → Saved (λ t i. fork_of c x p y q (rest t i) t i) F G t i d e
    two t i d e g b l r true w ex ey z = by-x t i d e b l r (eqb-true b x ex) (hp.saves t i d e g z)
    two t i d e g b l r false true ex ey z = by-y t i d e b l r (eqb-true b y ey) (hq.saves t i d e g z)
    two t i d e g b l r false false ex ey z =
        let n : after b i ≡ e = cc in
        let m : suc (byte_of i) ≡ byte_of e = omega (arith, ap byte_of n) in
        (byte_of i, omega arith, wrong m (λ u s. neither b l (rest u i) u i ex ey (same_byte t u i (byte_of e) b l r s (omega arith)) ∙ z), able t i g)

    go : (t : List ℕ) (i : TextLocation) (d : ℕ) (e : TextLocation) → Good t i → (l : List ℕ) → rest t i ≡ l → fork_of c x p y q l t i ≡ stop d e → Saved (λ t i. fork_of c x p y q (rest t i) t i) F G t i d e
    go t i d e g [] r z = let n : i ≡ e = cc in (byte_of i, omega arith, finished (ap byte_of n) (sym (ap byte_of n) ∙ at-end t i g r), able t i g)
    go t i d e g (b ∷ l) r z = two t i d e g b l r (eqb b x) (eqb b y) refl refl z
