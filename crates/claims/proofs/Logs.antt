-- The data bytes that are read in a text and in its cuts: those of a cut are the whole's up to the cut.
use Rattle.std.specs.Prelude.{◌≡◌, refl, ℕ, zero, suc, ◌≤◌, ◌<◌, Bool, true, false, List, [], ◌∷◌, length, take, get_or, leb}
use Rattle.std.proofs.Common.{sym, ap, ◌∙◌, arith, le_of_suc-le-suc, not-suc-le-zero, le-leb}
use Rattle.std.proofs.Math.Decide.{dec_le}
use Rattle.std.proofs.lemmas.Bool.{lt-leb}
use Rattle.text.specs.declared.TextLocation.{TextLocation}
use Rattle.text.specs.Place.{pick, byte_of, start}
use Rattle.text.specs.Reader.{Result, ok, stop, bad, end_byte, Settled}
use Rattle.text.proofs.Reader.{ahead, cut-firm, cut-stop, uncut}
use Rattle.text.specs.Leaf.{give}
use Rattle.header.specs.Header.{Head, header}
use Rattle.header.proofs.Header.{header-local, header-firm}
use Rattle.body.specs.Data.{item, items, Log, logged, log_of, bytes_of}
use Rattle.body.proofs.Data.{item-local, item-firm, item-mild, items-local}
use Rattle.grammar.proofs.Bind.{bind-case, bind_ok}

-- what stands for an entry that is not there
abbrev pub none_yet : ℕ × TextLocation
none_yet = (0, start)

-- ---- the data bytes that came whole within n bytes

abbrev pub until : ℕ → Log → Log
until n [] = []
until n (x ∷ l) = pick (leb (byte_of x.1) n) (x ∷ until n l) []

log-cut : (k : ℕ) (f : Bool) (t : List ℕ) (i : TextLocation) (n : ℕ) → byte_of i ≤ n → n ≤ length t → log_of k f (take n t) i ≡ until n (log_of k f t i)
unfolding log_of
log-cut zero f t i n hi hn = refl
log-cut (suc k) f t i n hi hn = go (item f t i) refl (λ m a. log-cut k false t m n a hn)
  where
    none_left : (s : Result ℕ) → item f (take n t) i ≡ s → (Settled (item f t i) → ⊥) → logged s (λ e. log_of k false (take n t) e) ≡ []
    none_left (ok b e) q w = absurd (w (rw (uncut (item-local f) t i n hi hn (item-firm f) (rw q tt), q) tt))
    none_left (stop c e) q w = refl
    none_left (bad c e) q w = refl

    fits : (b : ℕ) (m : TextLocation) → item f t i ≡ ok b m → ((m : TextLocation) → byte_of m ≤ n → log_of k false (take n t) m ≡ until n (log_of k false t m)) → Dec (byte_of m ≤ n)
        → logged (item f (take n t) i) (λ e. log_of k false (take n t) e) ≡ until n ((b, m) ∷ log_of k false t m)
    fits b m q ih (yes l) = rw (cut-firm (item-local f) t i n hi hn (item-firm f) (rw q tt) (rw q l), q, le-leb (byte_of m) n l) (ap (λ (r : Log). (b, m) ∷ r) (ih m l))
    fits b m q ih (no l) = rw ((cut-stop (item-local f) t i n hi hn (item-firm f) (rw q (omega arith))).2, lt-leb (byte_of m) n (omega arith))

    go : (r : Result ℕ) → item f t i ≡ r → ((m : TextLocation) → byte_of m ≤ n → log_of k false (take n t) m ≡ until n (log_of k false t m))
        → logged (item f (take n t) i) (λ e. log_of k false (take n t) e) ≡ until n (logged r (λ e. log_of k false t e))
    go (ok b m) q ih = fits b m q ih (dec_le (byte_of m) n)
    go (stop c e) q ih = none_left (item f (take n t) i) refl (rw q (λ w. w))
    go (bad c e) q ih = absurd (rw q at ((item-mild f).mild t i))

-- ---- their places rise

abbrev pub Rising : ℕ → Log → Type 0
Rising lo [] = Unit {0}
Rising lo (x ∷ l) = (lo ≤ byte_of x.1) × Rising (byte_of x.1) l

pub log-rising : (k : ℕ) (f : Bool) (t : List ℕ) (i : TextLocation) → Rising (byte_of i) (log_of k f t i)
unfolding log_of
log-rising zero f t i = tt
log-rising (suc k) f t i = go (item f t i) (ahead (item-local f) t i) (λ e. log-rising k false t e)
  where
    go : (r : Result ℕ) → byte_of i ≤ end_byte r → ((e : TextLocation) → Rising (byte_of e) (log_of k false t e)) → Rising (byte_of i) (logged r (λ e. log_of k false t e))
    go (ok b e) h ih = (h, ih e)
    go (stop c e) h ih = tt
    go (bad c e) h ih = tt

rising_le : (lo : ℕ) (l : Log) (k : ℕ) → Rising lo l → k < length l → lo ≤ byte_of (get_or l k none_yet).1
rising_le lo [] k r h = absurd (not-suc-le-zero h)
rising_le lo (x ∷ l) zero r h = r.0
rising_le lo (x ∷ l) (suc k) r h = omega (arith, r.0, rising_le (byte_of x.1) l k r.1 (le_of_suc-le-suc h))

until_none : (n lo : ℕ) (l : Log) → n < lo → Rising lo l → until n l ≡ []
until_none n lo [] h r = refl
until_none n lo (x ∷ l) h r = rw (lt-leb (byte_of x.1) n (omega (arith, r.0)))

-- a data byte that came whole is there, as in the whole; and what is there came whole
pub until-in : (n lo : ℕ) (l : Log) (k : ℕ) → Rising lo l → k < length l → byte_of (get_or l k none_yet).1 ≤ n → (k < length (until n l)) × (get_or (until n l) k none_yet ≡ get_or l k none_yet)
until-in n lo [] k r h w = absurd (not-suc-le-zero h)
until-in n lo (x ∷ l) zero r h w = rw (le-leb (byte_of x.1) n w) (omega arith, refl)
until-in n lo (x ∷ l) (suc k) r h w =
    rw (le-leb (byte_of x.1) n (omega (arith, rising_le (byte_of x.1) l k r.1 (le_of_suc-le-suc h))))
    (let (a, b) = until-in n (byte_of x.1) l k r.1 (le_of_suc-le-suc h) w in (omega arith, b))

pub until-only : (n : ℕ) (l : Log) (k : ℕ) → k < length (until n l) → (k < length l) × (byte_of (get_or l k none_yet).1 ≤ n)
until-only n [] k h = absurd (not-suc-le-zero h)
until-only n (x ∷ l) k h = go (dec_le (byte_of x.1) n) (λ j. until-only n l j) k h
  where
    go : Dec (byte_of x.1 ≤ n) → ((j : ℕ) → j < length (until n l) → (j < length l) × (byte_of (get_or l j none_yet).1 ≤ n)) → (k : ℕ) → k < length (until n (x ∷ l))
        → (k < length (x ∷ l)) × (byte_of (get_or (x ∷ l) k none_yet).1 ≤ n)
    go (yes w) ih zero h = (omega arith, w)
    go (yes w) ih (suc k) h = let (a, b) = ih k (le_of_suc-le-suc (rw (le-leb (byte_of x.1) n w) at h)) in (omega arith, b)
    go (no w) ih k h = absurd (not-suc-le-zero (rw (lt-leb (byte_of x.1) n (omega arith)) at h))

pub until-all : (n : ℕ) (l : Log) → ((j : ℕ) → j < length l → byte_of (get_or l j none_yet).1 ≤ n) → until n l ≡ l
until-all n [] h = refl
until-all n (x ∷ l) h = rw (le-leb (byte_of x.1) n (h 0 (omega arith))) (ap (λ (r : Log). x ∷ r) (until-all n l (λ j b. h (suc j) (omega arith))))

-- ---- a whole text

abbrev pub log_in : Result Head → List ℕ → Log
log_in (ok h e) t = log_of (bytes_of h.width h.height) true t e
log_in (stop c e) t = []
log_in (bad c e) t = []

pub header-cut : (lim : ℕ) (t : List ℕ) (n : ℕ) → n ≤ length t → (h : Head) (e : TextLocation) → header lim t start ≡ ok h e → log_in (header lim (take n t) start) (take n t) ≡ until n (log_in (header lim t start) t)
header-cut lim t n hn h e q = rw q (go (dec_le (byte_of e) n))
  where
    go : Dec (byte_of e ≤ n) → log_in (header lim (take n t) start) (take n t) ≡ until n (log_of (bytes_of h.width h.height) true t e)
    go (yes l) = rw (cut-firm (header-local lim) t start n (omega arith) hn (header-firm lim) (rw q tt) (rw q l), q) (log-cut (bytes_of h.width h.height) true t e n l hn)
    go (no l) =
        rw ((cut-stop (header-local lim) t start n (omega arith) hn (header-firm lim) (rw q (omega arith))).2, until_none n (byte_of e) (log_of (bytes_of h.width h.height) true t e) (omega arith) (log-rising (bytes_of h.width h.height) true t e))

-- ---- the data bytes of an accepted run: as many, with these values, the j-th where a run of j + 1 ends

pub log-full : (k : ℕ) (f : Bool) (t : List ℕ) (i : TextLocation) (a : List ℕ) (m : TextLocation) → items k f t i ≡ ok a m → (length (log_of k f t i) ≡ k) × (length a ≡ k)
unfolding log_of items give
log-full zero f t i a m q = let z : [] ≡ a = cc in (refl, ap length (sym z))
log-full (suc k) f t i a m q =
    bind-case (item f) _ t i q (λ b e u v. bind-case (items k false) _ t e v (λ l r x y. (let z : b ∷ l ≡ a = cc in let (c, d) = log-full k false t e l r x in (rw u (ap suc c), ap length (sym z) ∙ ap suc d))))

abbrev pub AtEntry : Bool → List ℕ → TextLocation → List ℕ → TextLocation → ℕ → ℕ × TextLocation → Type 0
AtEntry f t i a m j x = (x.0 ≡ get_or a j 0) × (items (suc j) f t i ≡ ok (take (suc j) a) x.1) × (byte_of x.1 ≤ byte_of m)

pub log-at : (k : ℕ) (f : Bool) (t : List ℕ) (i : TextLocation) (a : List ℕ) (m : TextLocation) → items k f t i ≡ ok a m → (j : ℕ) → j < k → AtEntry f t i a m j (get_or (log_of k f t i) j none_yet)
unfolding log_of items give
log-at zero f t i a m q j h = absurd (omega arith)
log-at (suc k) f t i a m q j h =
    bind-case (item f) _ t i q (λ b e u v. bind-case (items k false) _ t e v (λ l r x y. go b e l r u x (cc) (cc) (λ j h. log-at k false t e l r x j h) j h))
  where
    go : (b : ℕ) (e : TextLocation) (l : List ℕ) (r : TextLocation) → item f t i ≡ ok b e → items k false t e ≡ ok l r → a ≡ b ∷ l → r ≡ m
        → ((j : ℕ) → j < k → AtEntry false t e l r j (get_or (log_of k false t e) j none_yet))
        → (j : ℕ) → j < suc k → AtEntry f t i a m j (get_or (logged (item f t i) (λ e. log_of k false t e)) j none_yet)
    go b e l r u x z w ih zero h = rw (u, z) (refl, bind_ok (item f) _ t i b e u ∙ bind_ok (give []) (λ l. give (b ∷ l)) t e [] e refl, omega (arith, ahead (items-local k false) t e, ap end_byte x, ap byte_of w))
    go b e l r u x z w ih (suc j) h =
        let (p, s, o) = ih j (omega arith) in
        rw (u, z) (p, bind_ok (item f) _ t i b e u ∙ bind_ok (items (suc j) false) _ t e (take (suc j) l) (get_or (log_of k false t e) j none_yet).1 s, omega (arith, ap byte_of w))
