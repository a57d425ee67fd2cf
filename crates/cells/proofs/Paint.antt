-- The stores of a data byte against the cell rule: one byte more in the log.
use mathlib.Core.Path.{◌≡◌, refl, sym, ap, ◌∙◌}
use Prim.Native.Nat.{ℕ, zero, suc, ◌+◌, ◌-◌, ◌*◌, ◌/◌, ◌%◌, ◌≤◌, ◌<◌, min}
use native.Mathlib.Omega.{arith}
use native.Mathlib.Decide.{dec_lt, dec_le, ℕ_discrete}
use native.Mathlib.Nat.{div-add-mod', mod-lt, le_of_suc-le-suc, not-suc-le-zero}
use mathlib.Core.Option.{Option, some}
use mathlib.Core.List.{List, [], ◌∷◌, ◌++◌}
use lib.ListN.{length, get_or, set}
use lib.Seq.{get_or-set_same, get_or-set_other}
use borrow.Author.Tests.{ne_eqb, lt-ltb}
use Rattle.std.proofs.lemmas.Nat.{div-mul-add, mod-mul-add}
use Rattle.std.specs.Int.{div_ceil}
use Rattle.text.specs.declared.TextLocation.{TextLocation}
use Rattle.body.specs.Data.{Log, row_bytes}
use Rattle.cells.specs.Cells.{ink, byte_for, byte_at, inked, cell, cells_from, painted}
use Rattle.cells.specs.Stores.{dab, byte_stored}
use Rattle.cells.proofs.Kept.{at-past}
use Rattle.cells.proofs.Stores.{length-dab, end-within}

-- ---- a log with one byte more

pub length_more : (l : Log) (b : ℕ × TextLocation) → length (l ++ b ∷ []) ≡ suc (length l)
length_more [] b = refl
length_more (x ∷ l) b = ap suc (length_more l b)

at_before : (l : Log) (b : ℕ × TextLocation) (k : ℕ) → k < length l → byte_at (l ++ b ∷ []) k ≡ byte_at l k
at_before [] b k h = absurd (not-suc-le-zero h)
at_before (x ∷ l) b zero h = refl
at_before (x ∷ l) b (suc k) h = at_before l b k (le_of_suc-le-suc h)

at-seam : (l : Log) (b : ℕ × TextLocation) → byte_at (l ++ b ∷ []) (length l) ≡ some b.0
at-seam [] b = refl
at-seam (x ∷ l) b = at-seam l b

at_other : (l : Log) (b : ℕ × TextLocation) (k : ℕ) → (k ≡ length l → ⊥) → byte_at (l ++ b ∷ []) k ≡ byte_at l k
at_other l b k n = go (dec_lt k (length l))
  where
    go : Dec (k < length l) → byte_at (l ++ b ∷ []) k ≡ byte_at l k
    go (yes h) = at_before l b k h
    go (no h) = at-past (l ++ b ∷ []) k (omega (arith, length_more l b, n)) ∙ sym (at-past l k (omega arith))

-- ---- what the stores leave

dab-in : (s b n : ℕ) (p : List ℕ) (i : ℕ) → i < n → s + n ≤ length p → get_or (dab s b n p) (s + i) 0 ≡ ink b i
dab-in s b zero p i h k = absurd (omega arith)
dab-in s b (suc n) p i h k = go (ℕ_discrete i n) (λ l. dab-in s b n p i l (omega arith))
  where
    go : Dec (i ≡ n) → (i < n → get_or (dab s b n p) (s + i) 0 ≡ ink b i) → get_or (set (dab s b n p) (s + n) (ink b n)) (s + i) 0 ≡ ink b i
    go (yes q) ih = rw q (get_or-set_same (dab s b n p) (s + n) (ink b n) 0 (omega (arith, length-dab s b n p)))
    go (no q) ih = get_or-set_other (dab s b n p) (s + n) (s + i) (ink b n) 0 (λ e. q (omega arith)) ∙ ih (omega arith)

dab-out : (s b n : ℕ) (p : List ℕ) (c : ℕ) → (s ≤ c → c < s + n → ⊥) → get_or (dab s b n p) c 0 ≡ get_or p c 0
dab-out s b zero p c h = refl
dab-out s b (suc n) p c h =
    get_or-set_other (dab s b n p) (s + n) c (ink b n) 0 (λ e. h (omega arith) (omega arith)) ∙ dab-out s b n p c (λ u v. h u (omega arith))

-- ---- which cells those are: a number's quotient and rest are the only ones

pub divmod : (m y r : ℕ) → 0 < m → r < m → ((y * m + r) / m ≡ y) × ((y * m + r) % m ≡ r)
divmod m y r hm hr = (div-mul-add y m r hr, mod-mul-add y m r hr)

divmod-unique : (m y q z r : ℕ) → 0 < m → q < m → r < m → y * m + q ≡ z * m + r → (y ≡ z) × (q ≡ r)
divmod-unique m y q z r hm hq hr e =
    (sym (divmod m y q hm hq).0 ∙ ap (λ (k : ℕ). k / m) e ∙ (divmod m z r hm hr).0, sym (divmod m y q hm hq).1 ∙ ap (λ (k : ℕ). k % m) e ∙ (divmod m z r hm hr).1)

-- byte j of row y, n cells from s on: all that the byte has in the row
module _ (w : ℕ) (hw : 0 < w) (y j : ℕ) (hj : j < row_bytes w) (s n : ℕ) (hs : s ≡ y * w + 8 * j) (hn : n ≡ min 8 (w - 8 * j)) where
  own : (i : ℕ) → i < n → (byte_for w (s + i) ≡ y * row_bytes w + j) × ((s + i) % w % 8 ≡ i)
  own i hi =
      (let (a, b) = divmod w y (8 * j + i) hw (omega arith) in
      let e : s + i ≡ y * w + (8 * j + i) = omega arith in
      (rw (e, a, b) (ap (λ (k : ℕ). y * row_bytes w + k) (omega arith)), rw (e, b) (omega arith)))

  others : (c : ℕ) → byte_for w c ≡ y * row_bytes w + j → (s ≤ c) × (c < s + n)
  others c q =
      (let (a, b) = divmod-unique (row_bytes w) (c / w) (c % w / 8) y j (omega arith) (omega (arith, mod-lt c hw)) hj q in
      (omega (arith, ap (λ (k : ℕ). k * w) a, div-add-mod' c w), omega (arith, ap (λ (k : ℕ). k * w) a, div-add-mod' c w, mod-lt c hw)))

  -- one more data byte: the stores make of the cells of l those of l with the byte
  pub paint-step : (lent p : List ℕ) (l : Log) (b : ℕ) (e : TextLocation) → length l ≡ y * row_bytes w + j → s + n ≤ length p
      → ((c : ℕ) → get_or p c 0 ≡ cell w l c (get_or lent c 0)) → (c : ℕ) → get_or (dab s b n p) c 0 ≡ cell w (l ++ (b, e) ∷ []) c (get_or lent c 0)
  unfolding cell
  paint-step lent p l b e hl hp old c = go (dec_le s c) (dec_lt c (s + n))
    where
      away : (s ≤ c → c < s + n → ⊥) → get_or (dab s b n p) c 0 ≡ inked (byte_at (l ++ (b, e) ∷ []) (byte_for w c)) (c % w % 8) (get_or lent c 0)
      away h = dab-out s b n p c h ∙ old c ∙ sym (ap (λ (o : Option ℕ). inked o (c % w % 8) (get_or lent c 0)) (at_other l (b, e) (byte_for w c) (λ q. (let (u, v) = others c (q ∙ hl) in h u v))))

      mine : (i : ℕ) → i < n → c ≡ s + i → get_or (dab s b n p) c 0 ≡ inked (byte_at (l ++ (b, e) ∷ []) (byte_for w c)) (c % w % 8) (get_or lent c 0)
      mine i hi q =
          let x : byte_for w c ≡ length l = ap (byte_for w) q ∙ (own i hi).0 ∙ sym hl in
          let z : c % w % 8 ≡ i = ap (λ (k : ℕ). k % w % 8) q ∙ (own i hi).1 in
          ap (λ (k : ℕ). get_or (dab s b n p) k 0) q ∙ dab-in s b n p i hi hp ∙ sym (rw (x, at-seam l (b, e), z) refl)

      go : Dec (s ≤ c) → Dec (c < s + n) → get_or (dab s b n p) c 0 ≡ inked (byte_at (l ++ (b, e) ∷ []) (byte_for w c)) (c % w % 8) (get_or lent c 0)
      go (yes h) (yes k) = mine (c - s) (omega arith) (omega arith)
      go (yes h) (no k) = away (λ u v. k v)
      go (no h) k = away (λ u v. h u)

-- ---- the cells as a list

painted-from : (w : ℕ) (l : Log) (c : ℕ) (p lent : List ℕ) → length p ≡ length lent → ((i : ℕ) → get_or p i 0 ≡ cell w l (c + i) (get_or lent i 0)) → p ≡ cells_from w l c lent
painted-from w l c [] [] h k = refl
painted-from w l c [] (y ∷ lent) h k = absurd (omega arith)
painted-from w l c (x ∷ p) [] h k = absurd (omega arith)
painted-from w l c (x ∷ p) (y ∷ lent) h k =
    let a : x ≡ cell w l c y = k 0 ∙ ap (λ (m : ℕ). cell w l m y) (omega arith) in
    rw (← a)
    (ap (λ (m : List ℕ). x ∷ m) (painted-from w l (suc c) p lent (omega arith) (λ i. k (suc i) ∙ ap (λ (m : ℕ). cell w l m (get_or lent i 0)) (omega arith))))

pub painted-all : (w : ℕ) (l : Log) (p lent : List ℕ) → length p ≡ length lent → ((c : ℕ) → get_or p c 0 ≡ cell w l c (get_or lent c 0)) → p ≡ painted w l lent
unfolding painted
painted-all w l p lent h k = painted-from w l 0 p lent h (λ i. k i ∙ ap (λ (m : ℕ). cell w l m (get_or lent i 0)) (omega arith))

row-ceil : (w : ℕ) → row_bytes w ≡ div_ceil w 8
row-ceil w = omega arith

-- ---- one data byte by its position: the cells of the bytes before it become those with it

pub stored-step : (w : ℕ) → (w ≡ 0 → ⊥) → (lent p : List ℕ) (l : Log) (b : ℕ) (e : TextLocation) → length l / ((w + 7) / 8) < length p / w
    → ((c : ℕ) → get_or p c 0 ≡ cell w l c (get_or lent c 0)) → (c : ℕ) → get_or (byte_stored w (length l) b p) c 0 ≡ cell w (l ++ (b, e) ∷ []) c (get_or lent c 0)
unfolding byte_stored
stored-step w h lent p l b e r old c =
    let k : ℕ = length l in
    let some_bytes : 0 < row_bytes w = omega arith in
    rw (ne_eqb w 0 h, lt-ltb (k / ((w + 7) / 8)) (length p / w) r)
    (paint-step w (omega arith) (k / row_bytes w) (k % row_bytes w) (mod-lt k some_bytes) (k / row_bytes w * w + k % row_bytes w * 8) (min 8 (w - k % row_bytes w * 8)) (omega arith) (omega arith) lent p l b e
    (omega (arith, div-add-mod' k (row_bytes w))) (omega (arith, end-within w k h (row-ceil w) (length p) r refl)) old c)
