-- What the stores of the code make of a lent buffer.
use mathlib.Core.Path.{◌≡◌, refl, sym, ◌∙◌}
use Prim.Native.Nat.{ℕ, zero, suc, ◌+◌, ◌-◌, ◌*◌, ◌/◌, ◌%◌, ◌^◌, ◌≤◌, ◌<◌, min}
use native.Mathlib.Omega.{arith}
use native.Mathlib.Nat.{zero-add, add-sub_cancel_left, div-one, div-div-eq-div-mul, pow-suc, mod-lt, mul-le-mul_right, div-add-mod'}
use native.Mathlib.Numerals.{add-one}
use mathlib.Core.List.{List, ◌++◌}
use lib.ListN.{length, set, take, drop, length-set, length-take, length-drop, take-append-drop}
use lib.Seq.{set-append_left}
use Rattle.std.proofs.lemmas.List.{set-append_right}
use borrow.Author.Tests.{ne_eqb, lt-ltb}
use Rattle.std.specs.Int.{div_ceil}
use Rattle.body.specs.Data.{row_bytes}
use Rattle.cells.specs.Cells.{ink}
use Rattle.cells.specs.Stores.{dab, unpacked, byte_stored}

-- ---- the stores of one byte

pub length-dab : (s b n : ℕ) (p : List ℕ) → length (dab s b n p) ≡ length p
length-dab s b zero p = refl
length-dab s b (suc n) p = length-set (dab s b n p) (s + n) (ink b n) ∙ length-dab s b n p

-- one cell more, and one bit fewer
pub dab_more : (b i : ℕ) (p : List ℕ) → set (dab 0 b i p) i (ink (b / 2 ^ i) 0) ≡ dab 0 b (i + 1) p
dab_more b i p = rw (add-one, zero-add, div-one) refl

pub bits_more : (b i : ℕ) → b / 2 ^ i / 2 ≡ b / 2 ^ (i + 1)
bits_more b i = rw (add-one, pow-suc) (div-div-eq-div-mul b (2 ^ i) 2)

pub ruleset unpack_laws = (dab_more, bits_more)

-- ---- cells stored in a part that is lent

dab-after : (u : List ℕ) (b n : ℕ) (p : List ℕ) → dab (length u) b n (u ++ p) ≡ u ++ dab 0 b n p
dab-after u b zero p = refl
dab-after u b (suc n) p = rw (dab-after u b n p, set-append_right u (dab 0 b n p) (length u) (length u + n) (ink b n) refl (omega arith), add-sub_cancel_left, zero-add)

dab-before : (b n : ℕ) (p q : List ℕ) → n ≤ length p → dab 0 b n (p ++ q) ≡ dab 0 b n p ++ q
dab-before b zero p q h = refl
dab-before b (suc n) p q h = rw (dab-before b n p q (omega arith), zero-add) (set-append_left (dab 0 b n p) q n (ink b n) (omega (arith, length-dab 0 b n p)))

-- n cells from s on, lent and back
pub dab-part : (s b n e : ℕ) (p : List ℕ) → e ≡ s + n → e ≤ length p → take s p ++ (unpacked b (take (e - s) (drop s p)) ++ drop (e - s) (drop s p)) ≡ dab s b n p
dab-part s b n e p h k =
    let z : e - s ≡ n = omega arith in
    let m : length (take n (drop s p)) ≡ n = length-take n (drop s p) ∙ omega (arith, length-drop s p) in
    let l : length (take s p) ≡ s = length-take s p ∙ omega arith in
    rw (z, m, ← dab-before b n (take n (drop s p)) (drop n (drop s p)) (omega (arith, m)), take-append-drop)
    (sym (dab-after (take s p) b n (drop s p)) ∙ rw (l, take-append-drop))

-- ---- the cells of one data byte, by its position: a data bytes make a row of w cells, so this one begins at cell x of row y

module _ (w k : ℕ) (h : w ≡ 0 → ⊥) {a : ℕ} (e : a ≡ div_ceil w 8) where
  across : a ≡ row_bytes w
  across = omega (arith, e)

  pub end-within : (n : ℕ) → k / a < n / w → {m : ℕ} → m ≡ min (w - k % a * 8) 8 → k / a * w + k % a * 8 + m ≤ n
  end-within n l {m} s =
      let some : 0 < a = omega (arith, across) in
      let z : (k / a + 1) * w ≤ n / w * w = mul-le-mul_right w (omega arith) in
      omega (arith, z, div-add-mod' n w, across, mod-lt k some)

pub stored_in : (w k b : ℕ) (p : List ℕ) → (w ≡ 0 → ⊥) → {a : ℕ} → a ≡ div_ceil w 8 → k / a < length p / w → {m : ℕ} {q : List ℕ} → m ≡ min (w - k % a * 8) 8
    → q ≡ unpacked b (take (k / a * w + k % a * 8 + m - (k / a * w + k % a * 8)) (drop (k / a * w + k % a * 8) p))
    → take (k / a * w + k % a * 8) p ++ (q ++ drop (k / a * w + k % a * 8 + m - (k / a * w + k % a * 8)) (drop (k / a * w + k % a * 8) p)) ≡ byte_stored w k b p
unfolding byte_stored
stored_in w k b p h {a} e l {m} s u =
    let z : min 8 (w - k % a * 8) ≡ m = omega arith in
    rw (ne_eqb w 0 h, ← across w k h e, lt-ltb (k / a) (length p / w) l, z, u)
    (dab-part (k / a * w + k % a * 8) b m (k / a * w + k % a * 8 + m) p refl (end-within w k h e (length p) l s))
