-- How long the text of the data bytes is.
use Rattle.std.specs.Prelude.{◌≡◌, refl, ℕ, zero, suc, ◌+◌, ◌*◌, ◌/◌, ◌%◌, ◌<◌, Bool, true, false, List, [], ◌∷◌, ◌++◌, length, eqb}
use Rattle.std.proofs.Common.{ap, ◌∙◌, arith, length-append, eqb-true, ne_eqb}
use Rattle.std.proofs.lemmas.Bool.{eqb-false}
use Rattle.text.specs.Ascii.{ascii}
use Rattle.text.specs.Place.{pick}
use Rattle.body.specs.Data.{bytes_of}
use Rattle.data_text.specs.Packed.{packed_from, packed}
use Rattle.data_text.specs.DataText.{lead_text, byte_text, data_text, data_length}

lead-length : (k : ℕ) → length (lead_text (suc k)) ≡ pick (eqb (suc k % 12) 0) 5 2
lead-length k = rw (ne_eqb (suc k) 0 (λ e. omega arith)) (go (eqb (suc k % 12) 0))
  where
    go : (t : Bool) → length (pick t (ascii ",\n   ") (ascii ", ")) ≡ pick t 5 2
    go true = refl
    go false = refl

-- the length of k + 1 data bytes
abbrev some : ℕ → ℕ
some k = 6 * k + 8 + 3 * (k / 12)

-- the text of the bytes from byte k + 1 on is what all take less what those before take
data-from : (k : ℕ) (l : List ℕ) → some k + length (data_text (suc k) l) ≡ some (k + length l)
data-from k [] = let z : k + 0 ≡ k = omega arith in rw z (omega arith)
data-from k (b ∷ l) =
    let z : k + suc (length l) ≡ suc k + length l = omega arith in
    let e : length (lead_text (suc k) ++ (byte_text b ++ data_text (suc (suc k)) l)) ≡ length (lead_text (suc k)) + (4 + length (data_text (suc (suc k)) l)) =
    omega (arith, length-append (lead_text (suc k)) (byte_text b ++ data_text (suc (suc k)) l)) in
    rw (z, e, lead-length k) (go (eqb (suc k % 12) 0) refl (data-from (suc k) l))
  where
    go : (t : Bool) → eqb (suc k % 12) 0 ≡ t → some (suc k) + length (data_text (suc (suc k)) l) ≡ some (suc k + length l)
        → some k + (pick t 5 2 + (4 + length (data_text (suc (suc k)) l))) ≡ some (suc k + length l)
    go true e i = let m : suc k % 12 ≡ 0 = eqb-true (suc k % 12) 0 e in omega arith
    go false e i = let m : suc k % 12 ≡ 0 → ⊥ = eqb-false (suc k % 12) 0 e in let p : 0 < suc k % 12 = positive (suc k % 12) m in omega arith
      where
        positive : (n : ℕ) → (n ≡ 0 → ⊥) → 0 < n
        positive zero f = absurd (f refl)
        positive (suc n) f = omega arith

pub packed-length : (w : ℕ) (cells : List ℕ) (k n : ℕ) → length (packed_from w cells k n) ≡ n
packed-length w cells k zero = refl
packed-length w cells k (suc n) = ap suc (packed-length w cells (suc k) n)

pub data_length_lem : (l : List ℕ) → length (data_text 0 l) ≡ data_length (length l)
data_length_lem [] = refl
data_length_lem (b ∷ l) = let z : 0 + length l ≡ length l = omega arith in omega (arith, rw z at (data-from 0 l))

-- the text of a picture's data bytes
pub packed-text-length : (w h : ℕ) (cells : List ℕ) → length (data_text 0 (packed w h cells)) ≡ data_length (bytes_of w h)
packed-text-length w h cells = data_length_lem (packed w h cells) ∙ ap data_length (packed-length w cells 0 (bytes_of w h))
