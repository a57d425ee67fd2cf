-- The cells of a painted buffer: by the rule where the data byte was read, and as lent everywhere else.
use Rattle.std.specs.Prelude.{◌≡◌, refl, ◌⊎◌, ℕ, zero, suc, ◌+◌, ◌*◌, ◌/◌, ◌%◌, ◌≤◌, ◌<◌, Bool, true, false, List, [], ◌∷◌, get_or, eqb}
use Rattle.std.proofs.Common.{ap, ◌∙◌, inl, inr, arith, le_of_suc-le-suc, not-suc-le-zero, div-add-mod', le-div_iff_mul-le, eqb-true}
use Rattle.std.proofs.Math.Nat.{mul-le-mul_right}
use Rattle.std.proofs.Math.Option.{Option, none, some, map}
use Rattle.std.proofs.Math.ListN.{length, get_elem?}
use Rattle.std.proofs.lemmas.Bool.{eqb-false}
use Rattle.text.specs.Place.{pick}
use Rattle.body.specs.Data.{Log}
use Rattle.cells.specs.Cells.{ink, byte_for, byte_at, inked, cell, cells_from, painted}
use Rattle.cells.proofs.Kept.{at-past}
use Rattle.cells.proofs.Paint.{divmod}
use Rattle.grammar.specs.Grammar.{Mask}
use Rattle.claims.specs.Terms.{W, rows, bit, Rule}
use Rattle.claims.proofs.Logs.{none_yet}

-- ---- lists

pub has : (t : List ℕ) (i : ℕ) → i < length t → get_elem? t i ≡ some (get_or t i 0)
has [] i h = absurd (not-suc-le-zero h)
has (x ∷ t) zero h = refl
has (x ∷ t) (suc i) h = has t i (le_of_suc-le-suc h)

pub byte_at-in : (l : Log) (k : ℕ) → k < length l → byte_at l k ≡ some (get_or l k none_yet).0
byte_at-in [] k h = absurd (not-suc-le-zero h)
byte_at-in (x ∷ l) zero h = refl
byte_at-in (x ∷ l) (suc k) h = byte_at-in l k (le_of_suc-le-suc h)

cells_at : (w : ℕ) (l : Log) (c : ℕ) (r : List ℕ) (j : ℕ) → get_elem? (cells_from w l c r) j ≡ map (cell w l (c + j)) (get_elem? r j)
cells_at w l c [] j = refl
cells_at w l c (x ∷ r) zero = ap (λ (k : ℕ). some (cell w l k x)) (omega arith)
cells_at w l c (x ∷ r) (suc j) = cells_at w l (suc c) r j ∙ ap (λ (k : ℕ). map (cell w l k) (get_elem? r j)) (omega arith)

painted-at : (w : ℕ) (l : Log) (r : List ℕ) (j : ℕ) → get_elem? (painted w l r) j ≡ map (cell w l j) (get_elem? r j)
unfolding painted
painted-at w l r j = cells_at w l 0 r j ∙ ap (λ (k : ℕ). map (cell w l k) (get_elem? r j)) (omega arith)

pub painted-length : (w : ℕ) (l : Log) (r : List ℕ) → length (painted w l r) ≡ length r
unfolding painted
painted-length w l r = go 0 r
  where
    go : (c : ℕ) (r : List ℕ) → length (cells_from w l c r) ≡ length r
    go c [] = refl
    go c (x ∷ r) = ap suc (go (suc c) r)

-- no data byte read, no cell moved
pub painted-none : (w : ℕ) (r : List ℕ) → painted w [] r ≡ r
unfolding painted cell
painted-none w r = go 0 r
  where
    go : (c : ℕ) (r : List ℕ) → cells_from w [] c r ≡ r
    go c [] = refl
    go c (x ∷ r) = ap (λ (k : List ℕ). x ∷ k) (go (suc c) r)

-- ---- numbers

ink-bit : (b j : ℕ) → ((bit b j ≡ 1) × (ink b j ≡ 0)) ⊎ ((bit b j ≡ 0) × (ink b j ≡ 255))
ink-bit b j = go (eqb (bit b j) 1) refl
  where
    go : (d : Bool) → eqb (bit b j) 1 ≡ d → ((bit b j ≡ 1) × (◌≡◌ {A = ℕ} (pick d 0 255) 0)) ⊎ ((bit b j ≡ 0) × (◌≡◌ {A = ℕ} (pick d 0 255) 255))
    go true q = inl (eqb-true (bit b j) 1 q, refl)
    go false q = inr (omega (arith, eqb-false (bit b j) 1 q), refl)

-- ---- the cells

pub in-mask : (m : Mask) → length m.bytes ≡ W m * m.height → (y i : ℕ) → y < m.height → i < m.width → y * W m + i / 8 < length m.bytes
in-mask m hl y i hy hi = omega (arith, mul-le-mul_right (W m) hy)

module _ (m : Mask) (pixels : List ℕ) (hw : 0 < m.width) where
  -- a cell in a whole row of the buffer
  module _ (y i : ℕ) (hy : y < rows m pixels) (hi : i < m.width) where
    in_buffer : y * m.width + i < length pixels
    in_buffer = omega (arith, mul-le-mul_right m.width hy, div-add-mod' (length pixels) m.width)

    at : (l : Log) → get_elem? (painted m.width l pixels) (y * m.width + i) ≡ some (inked (byte_at l (y * W m + i / 8)) (i % 8) (get_or pixels (y * m.width + i) 0))
    unfolding cell
    at l =
        let (a, b) = divmod m.width y i hw hi in
        painted-at m.width l pixels (y * m.width + i) ∙ rw (has pixels (y * m.width + i) in_buffer, a, b)

    pub as_lent : (l : Log) → byte_at l (y * W m + i / 8) ≡ none → get_elem? (painted m.width l pixels) (y * m.width + i) ≡ get_elem? pixels (y * m.width + i)
    as_lent l q = at l ∙ rw (q, has pixels (y * m.width + i) in_buffer)

    pub as-rule : (l : Log) (b : ℕ) → byte_at l (y * W m + i / 8) ≡ some b → get_elem? m.bytes (y * W m + i / 8) ≡ some b → Rule m y i (get_elem? (painted m.width l pixels) (y * m.width + i))
    as-rule l b q r = (b, r, told (ink-bit b (i % 8)))
      where
        is : get_elem? (painted m.width l pixels) (y * m.width + i) ≡ some (ink b (i % 8))
        is = at l ∙ rw q

        told : ((bit b (i % 8) ≡ 1) × (ink b (i % 8) ≡ 0)) ⊎ ((bit b (i % 8) ≡ 0) × (ink b (i % 8) ≡ 255))
            → ((bit b (i % 8) ≡ 1) × (get_elem? (painted m.width l pixels) (y * m.width + i) ≡ some 0)) ⊎ ((bit b (i % 8) ≡ 0) × (get_elem? (painted m.width l pixels) (y * m.width + i) ≡ some 255))
        told (inl (x, z)) = inl (x, is ∙ ap (λ (k : ℕ). some k) z)
        told (inr (x, z)) = inr (x, is ∙ ap (λ (k : ℕ). some k) z)

  -- no cell past the rows whose data bytes were read
  pub past-rows : (l : Log) (r : ℕ) → length l ≤ W m * r → (c : ℕ) → r * m.width ≤ c → get_elem? (painted m.width l pixels) c ≡ get_elem? pixels c
  unfolding cell
  past-rows l r h c k = painted-at m.width l pixels c ∙ go (get_elem? pixels c)
    where
      far : length l ≤ byte_for m.width c
      far = omega (arith, mul-le-mul_right (W m) ((le-div_iff_mul-le hw).1 k))

      go : (o : Option ℕ) → map (cell m.width l c) o ≡ o
      go none = refl
      go (some x) = rw (at-past l (byte_for m.width c) far)
