-- What the packed bytes of a picture say of its cells: each is a byte, and each bit a cell.
use Rattle.std.specs.Prelude.{◌≡◌, ℕ, zero, suc, ◌+◌, ◌-◌, ◌*◌, ◌/◌, ◌%◌, ◌^◌, ◌≤◌, ◌<◌, min, Bool, true, false, List, get_or, eqb}
use Rattle.std.proofs.Common.{ap, ◌∙◌, arith, pow-suc, mod-eq_of_lt, le_of_suc-le-suc, not-suc-le-zero}
use Rattle.std.proofs.Math.Nat.{pow-succ', pow-le-pow_right, div-div-eq-div-mul, mul-add-div_right, mul-add-mod_self_right, div-eq_of_lt}
use Rattle.std.proofs.Math.Option.{some}
use Rattle.std.proofs.Math.ListN.{get_elem?}
use Rattle.text.specs.Place.{pick}
use Rattle.body.specs.Data.{row_bytes, bytes_of}
use Rattle.data_text.specs.Packed.{bit_at, bits, first_cell, cells_in, packed_at, packed_from, packed}

pub bit-small : (cells : List ℕ) (c : ℕ) → bit_at cells c ≤ 1
bit-small cells c = go (eqb (get_or cells c 255) 0)
  where
    go : (t : Bool) → pick t 1 0 ≤ 1
    go true = omega arith
    go false = omega arith

pub bits_small : (cells : List ℕ) (c n : ℕ) → bits cells c n < 2 ^ n
bits_small cells c zero = omega arith
bits_small cells c (suc n) = omega (arith, bit-small cells c, bits_small cells (suc c) n, pow-suc 2 n)

-- bit j is cell c + j
pub bits_at : (cells : List ℕ) (c n j : ℕ) → j < n → bits cells c n / 2 ^ j % 2 ≡ bit_at cells (c + j)
bits_at cells c zero j h = absurd (not-suc-le-zero h)
bits_at cells c (suc n) zero h = let z : c + 0 ≡ c = omega arith in rw z (omega (arith, bit-small cells c))
bits_at cells c (suc n) (suc j) h =
    let e : c + suc j ≡ suc c + j = omega arith in
    let p : 2 ^ suc j ≡ 2 * 2 ^ j = pow-succ' 2 j in
    let half : (bit_at cells c + 2 * bits cells (suc c) n) / 2 ≡ bits cells (suc c) n = omega (arith, bit-small cells c) in
    rw (e, p, ← div-div-eq-div-mul, half) (bits_at cells (suc c) n j (le_of_suc-le-suc h))

-- a packed byte is a byte
pub byte_small : (w : ℕ) (cells : List ℕ) (k : ℕ) → packed_at w cells k < 256
unfolding packed_at
byte_small w cells k = omega (arith, bits_small cells (first_cell w k) (cells_in w k), pow-le-pow_right {n = 2} (omega arith) {i = cells_in w k} {j = 8} (omega arith))

-- byte k + j of those from byte k on
packed-from : (w : ℕ) (cells : List ℕ) (k n j : ℕ) → j < n → get_elem? (packed_from w cells k n) j ≡ some (packed_at w cells (k + j))
packed-from w cells k zero j h = absurd (not-suc-le-zero h)
packed-from w cells k (suc n) zero h = let z : k + 0 ≡ k = omega arith in rw z
packed-from w cells k (suc n) (suc j) h = packed-from w cells (suc k) n j (le_of_suc-le-suc h) ∙ ap (λ (x : ℕ). some (packed_at w cells x)) (omega arith)

pub packed-at : (w h : ℕ) (cells : List ℕ) (j : ℕ) → j < bytes_of w h → get_elem? (packed w h cells) j ≡ some (packed_at w cells j)
packed-at w h cells j l = packed-from w cells 0 (bytes_of w h) j l ∙ ap (λ (x : ℕ). some (packed_at w cells x)) (omega arith)

-- bit i % 8 of byte y * W + i / 8 is cell y * w + i
pub packed-bit : (w : ℕ) (cells : List ℕ) (y i : ℕ) → i < w → packed_at w cells (y * row_bytes w + i / 8) / 2 ^ (i % 8) % 2 ≡ bit_at cells (y * w + i)
unfolding packed_at
packed-bit w cells y i h =
    let p : 0 < row_bytes w = omega arith in
    let l : i / 8 < row_bytes w = omega arith in
    let d : (y * row_bytes w + i / 8) / row_bytes w ≡ y = mul-add-div_right p y (i / 8) ∙ omega (arith, div-eq_of_lt l) in
    let m : (y * row_bytes w + i / 8) % row_bytes w ≡ i / 8 = mul-add-mod_self_right y (row_bytes w) (i / 8) ∙ mod-eq_of_lt l in
    let e : y * w + i / 8 * 8 + i % 8 ≡ y * w + i = omega arith in
    rw (d, m) (bits_at cells (y * w + i / 8 * 8) (min 8 (w - i / 8 * 8)) (i % 8) (omega arith) ∙ ap (bit_at cells) e)
