-- The theorems about what specs/Rest.antt defines.
use Rattle.std.specs.Prelude.{◌≡◌, ℕ, zero, suc, ◌+◌, ◌-◌, ◌<◌, ◌≤◌, min, Bool, true, false, List, [], ◌∷◌, length, take, drop, ◌==◌, ◌≢◌, nat_le, refl}
use Rattle.std.proofs.Common.{zero-add, suc-add, arith, sym, ap, ◌∙◌, length-drop, drop-drop, le-leb, leb-true, eq-eqb, eqb-true}
use Rattle.std.proofs.Math.ListN.{get_elem?}
use Rattle.text.specs.declared.TextLocation.{TextLocation}
use Rattle.text.specs.Place.{pick, rest, after, byte_of}
use Rattle.text.specs.Rest.{Walk, here, on, Reach, Sound, newlines}

pub nil-cons : {b : ℕ} {t : List ℕ} → [] ≢ b ∷ t
nil-cons e = let z : ◌≡◌ {A = ℕ} 0 1 = cc in omega arith

-- the place after a byte is sound where the place was
start-sound : (t : Bool) (s c k : ℕ) → s + c ≡ k → pick t (k + 1) s + pick t 0 (c + 1) ≡ k + 1
start-sound true s c k h = omega arith
start-sound false s c k h = omega arith

line-sound : (t : Bool) (l m k : ℕ) → l ≤ k + 1 → pick t (min (l + 1) m) l ≤ k + 1 + 1
line-sound true l m k h = omega arith
line-sound false l m k h = omega arith

pub after-rest : (s : List ℕ) (p : TextLocation) {b : ℕ} {t : List ℕ} → rest s p ≡ b ∷ t → rest s (after b p) ≡ t
unfolding rest after
after-rest s p {b} {t} e = go (p.start.0 + p.column.0 == p.byte.0) (nat_le p.line.0 (p.byte.0 + 1)) refl refl e
  where
    go : (x y : Bool) → (p.start.0 + p.column.0 == p.byte.0) ≡ x → nat_le p.line.0 (p.byte.0 + 1) ≡ y
        → pick x (pick y (drop p.byte.0 s) []) [] ≡ b ∷ t → rest s (after b p) ≡ t
    go true true hx hy e' =
        let hc = eq-eqb _ _ (start-sound (b == 10) p.start.0 p.column.0 p.byte.0 (eqb-true _ _ hx)) in
        let hl = le-leb _ _ (line-sound (b == 10) p.line.0 18446744073709551615 p.byte.0 (leb-true _ _ hy)) in
        rw (hc, hl)
        (sym (drop-drop 1 p.byte.0 s) ∙ ap (drop 1) e')
    go true false hx hy e' = absurd (nil-cons e')
    go false true hx hy e' = absurd (nil-cons e')
    go false false hx hy e' = absurd (nil-cons e')

get_elem-drop : (i : ℕ) (t : List ℕ) (j : ℕ) → get_elem? (drop i t) j ≡ get_elem? t (i + j)
get_elem-drop zero t j = rw zero-add
get_elem-drop (suc i) [] j = refl
get_elem-drop (suc i) (x ∷ t) j = rw suc-add (get_elem-drop i t j)

-- texts that agree at a byte of the text agree there in what remains
pub rest-agree : (t u : List ℕ) (p : TextLocation) (j : ℕ) → get_elem? t (byte_of p + j) ≡ get_elem? u (byte_of p + j)
    → get_elem? (rest t p) j ≡ get_elem? (rest u p) j
unfolding rest
rest-agree t u p j h = go (p.start.0 + p.column.0 == p.byte.0) (nat_le p.line.0 (p.byte.0 + 1))
  where
    go : (x y : Bool) → get_elem? (pick x (pick y (drop p.byte.0 t) []) []) j ≡ get_elem? (pick x (pick y (drop p.byte.0 u) []) []) j
    go true true = get_elem-drop (byte_of p) t j ∙ h ∙ sym (get_elem-drop (byte_of p) u j)
    go true false = refl
    go false true = refl
    go false false = refl

pub rest-room : (t : List ℕ) (p : TextLocation) → byte_of p ≤ length t → byte_of p + length (rest t p) ≤ length t
unfolding rest
rest-room t p h = go (p.start.0 + p.column.0 == p.byte.0) (nat_le p.line.0 (p.byte.0 + 1))
  where
    go : (x y : Bool) → byte_of p + length (pick x (pick y (drop p.byte.0 t) []) []) ≤ length t
    go true true = omega (arith, length-drop (byte_of p) t)
    go true false = omega arith
    go false true = omega arith
    go false false = omega arith

pub walk-ahead : {l : List ℕ} {p q : TextLocation} → Walk l p q → byte_of p ≤ byte_of q
unfolding after
walk-ahead here = omega arith
walk-ahead (on w) = omega (arith, walk-ahead w)

pub walk_inside : {l : List ℕ} {p q : TextLocation} → Walk l p q → byte_of q ≤ byte_of p + length l
unfolding after
walk_inside here = omega arith
walk_inside (on w) = omega (arith, walk_inside w)

pub reach-inside : (t : List ℕ) (p : TextLocation) {q : TextLocation} → Reach t p q → byte_of p ≤ length t → byte_of q ≤ length t
reach-inside t p w h = omega (arith, walk_inside w, rest-room t p h)

pub reach-trans : (t : List ℕ) {p m q : TextLocation} → Reach t p m → Reach t m q → Reach t p q
reach-trans t {p} {m} {q} w v = go (rest t p) p w refl v
  where
    go : (l : List ℕ) (p : TextLocation) → Walk l p m → rest t p ≡ l → Walk (rest t m) m q → Walk l p q
    go l p here e v = rw e at v
    go (b ∷ l) p (on w) e v = on (go l (after b p) w (after-rest t p e) v)

-- the byte count tells the place
pub walk-unique : {l : List ℕ} {p q q' : TextLocation} → Walk l p q → Walk l p q' → byte_of q ≡ byte_of q' → q ≡ q'
unfolding after
walk-unique here here e = refl
walk-unique here (on v) e = absurd (omega (arith, walk-ahead v))
walk-unique (on w) here e = absurd (omega (arith, walk-ahead w))
walk-unique (on w) (on v) e = walk-unique w v e

-- a text with the same bytes up to q reaches q too
pub walk_same : {l m : List ℕ} {p q : TextLocation} → Walk l p q → ((j : ℕ) → byte_of p + j < byte_of q → get_elem? l j ≡ get_elem? m j) → Walk m p q
unfolding after
walk_same here h = here
walk_same {m = []} (on w) h = let z : ◌≡◌ {A = ℕ} 0 1 = cc (h 0 (omega (arith, walk-ahead w))) in absurd (omega arith)
walk_same {l = b ∷ l} {m = y ∷ m} (on w) h =
    let e : y ≡ b = cc (h 0 (omega (arith, walk-ahead w))) in
    rw e (on (walk_same w (λ j k. h (suc j) (omega arith))))

pub reach-same : (t u : List ℕ) {p q : TextLocation} → Reach t p q → ((j : ℕ) → j < byte_of q → get_elem? t j ≡ get_elem? u j) → Reach u p q
reach-same t u {p} w h = walk_same w (λ j k. rest-agree t u p j (h (byte_of p + j) k))

-- what is reached from a sound place is sound
pub walk-sound : {l : List ℕ} {p q : TextLocation} → Walk l p q → Sound p → Sound q
unfolding after
walk-sound here h = h
walk-sound {l = b ∷ l} {p} (on w) h =
    walk-sound w (record { start = start-sound (b == 10) p.start.0 p.column.0 p.byte.0 h.start; line = line-sound (b == 10) p.line.0 18446744073709551615 p.byte.0 h.line })

lined : (d : Bool) (n m k : ℕ) → n < m → pick d (min (n + 1) m) n + k ≡ n + (pick d 1 0 + k)
lined true n m k h = omega arith
lined false n m k h = omega arith

lined-room : (d : Bool) (n m k : ℕ) → n + suc k ≤ m → pick d (min (n + 1) m) n + k ≤ m
lined-room true n m k h = omega arith
lined-room false n m k h = omega arith

-- a place that is reached is on the line that the newlines between count
pub line-counts : {l : List ℕ} {p q : TextLocation} → Walk l p q → p.line.0 + length l ≤ 18446744073709551615
    → q.line.0 ≡ p.line.0 + newlines (take (byte_of q - byte_of p) l)
unfolding after
line-counts {l = l} {p} here h = let k : byte_of p - byte_of p ≡ 0 = omega arith in rw k (omega arith)
line-counts {l = b ∷ l} {p} {q} (on w) h =
    let k : byte_of q - byte_of p ≡ suc (byte_of q - byte_of (after b p)) = omega (arith, walk-ahead w) in
    rw k
    (line-counts w (lined-room (b == 10) p.line.0 18446744073709551615 (length l) h)
    ∙ lined (b == 10) p.line.0 18446744073709551615 (newlines (take (byte_of q - byte_of (after b p)) l)) (omega arith))
