-- Counting the cells of ink, and the first cells of a picture.
use Rattle.std.specs.Prelude.{◌≡◌, refl, ℕ, ◌+◌, ◌≤◌, ◌<◌, ◌^◌, min, Bool, true, false, cond, List, length, take, drop, eqb, count_by}
use Rattle.std.proofs.Common.{arith, add-one, ap, sym, ◌∙◌, eq-eqb, ne_eqb}
use Rattle.std.proofs.Math.Seq.{drop-cons}
use Rattle.std.proofs.lemmas.List.{length-take, take_min, drop_min}
use Rattle.std.proofs.lemmas.List.Recursion.{is_count_by}
use Rattle.text.specs.Place.{pick}
use lib.ListN.{get_or, drop_of_length-le}
use mir.Syntax.{w64}
use mir.Val.{Fits}
use Rattle.ink.specs.Ink.{ink_at, ink_of}

-- n cells of ink among the first i
pub record Counting (cells : List ℕ) (n i : ℕ) : Type 0 where
  pub few : n ≤ i
  pub left : n + ink_of (drop i cells) ≡ ink_of cells

pub counting-none : (cells : List ℕ) → Counting cells 0 0
counting-none cells = record { few = omega arith; left = omega arith }

ink-yes : (x : ℕ) → x ≡ 0 → ink_at x ≡ 1
ink-yes x h = rw (eq-eqb x 0 h) refl

ink-not : (x : ℕ) → (x ≡ 0 → ⊥) → ink_at x ≡ 0
ink-not x h = rw (ne_eqb x 0 h) refl

module _ (cells : List ℕ) (n i : ℕ) (c : Counting cells n i) where
  pub counting-fits : i < length cells → length cells < 2 ^ 64 → Fits w64 (n + 1)
  counting-fits h l = record { fits = omega (arith, c.few) }

  more : i < length cells → ink_of (drop i cells) ≡ ink_at (get_or cells i 0) + ink_of (drop (i + 1) cells)
  more h = rw add-one (ap ink_of (drop-cons cells i 0 h))

  pub counting-ink : {m : ℕ} → i < length cells → get_or cells i 0 ≡ 0 → m ≡ n + 1 → Counting cells m (i + 1)
  counting-ink h e f = record { few = omega (arith, c.few, f); left = omega (arith, c.left, f, more h, ink-yes (get_or cells i 0) e) }

  pub counting-white : {m : ℕ} → i < length cells → (get_or cells i 0 ≡ 0 → ⊥) → m ≡ n → Counting cells m (i + 1)
  counting-white h e f = record { few = omega (arith, c.few, f); left = omega (arith, c.left, f, more h, ink-not (get_or cells i 0) e) }

  pub counting-done : length cells ≤ i → n ≡ ink_of cells
  counting-done h = omega (arith, c.left, ap ink_of (drop_of_length-le cells h))

pub ruleset counting_laws = (counting-none, counting-fits, counting-ink, counting-white, counting-done)

-- what the library counts
pub ink_counted : (l : List ℕ) {k : ℕ} → k ≡ count_by (λ x. eqb x 0) l → k ≡ ink_of l
ink_counted l e = e ∙ sym (is_count_by ink_of (λ x. eqb x 0) refl (λ x l. go (eqb x 0) (ink_of l)) l)
  where
    go : (t : Bool) (n : ℕ) → pick t 1 0 + n ≡ cond t (1 + n) n
    go true n = refl
    go false n = omega arith

-- ---- the first cells of a picture

-- as many as there are, or n of them
module _ (l : List ℕ) (n : ℕ) {size : ℕ} (e : size ≡ min n (length l)) where
  pub size_fits : size ≡ length (take size l)
  size_fits = omega (arith, length-take size l)

  pub size-within : size ≤ length l
  size-within = omega arith

  pub first-cells : take size l ≡ take n l
  first-cells = rw (e, take_min)

  pub other-cells : drop size l ≡ drop n l
  other-cells = rw (e, drop_min)
