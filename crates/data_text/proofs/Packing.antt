-- What a step of the code says of a packed byte.
use mathlib.Core.Path.{◌≡◌}
use Prim.Native.Nat.{ℕ, suc, ◌+◌, ◌-◌, ◌*◌, ◌/◌, ◌%◌, ◌^◌, ◌≤◌, ◌<◌, min}
use native.Mathlib.Omega.{arith}
use native.Mathlib.Nat.{mul-le-mul_left, mul_left_comm, div-add-mod', pow-le-pow_right}
use mir.Syntax.{w8}
use mir.Val.{Fits}
use mathlib.Core.List.{List}
use Rattle.std.specs.Int.{div_ceil}
use Rattle.data_text.specs.Packed.{bit_at, bits}
use Rattle.data_text.proofs.Bits.{bits_small}

-- a cell more in a byte
module _ (cells : List ℕ) (start n i : ℕ) {v : ℕ} (e : v ≡ bits cells (start + i) (n - i)) (few : n ≤ 8) (p : 0 < i) (l : i ≤ n) where
  small : v * 2 + bit_at cells (start + (i - 1)) < 256
  small =
      let a : n - (i - 1) ≡ suc (n - i) = omega arith in
      let b : suc (start + (i - 1)) ≡ start + i = omega arith in
      let s = bits_small cells (start + (i - 1)) (n - (i - 1)) in
      let q : 2 ^ suc (n - i) ≤ 256 = pow-le-pow_right {n = 2} (omega arith) {i = suc (n - i)} {j = 8} (omega arith) in
      omega (arith, e, rw (a, b) at s)

  pub pack-doubles : Fits w8 (v * 2)
  pack-doubles = record { fits = omega (arith, small) }

  pub pack-fits : {b : ℕ} → b ≡ bit_at cells (start + (i - 1)) → Fits w8 (v * 2 + b)
  pack-fits f = record { fits = omega (arith, f, small) }

pub ruleset pack_laws = (pack-doubles, pack-fits)

-- ---- a data byte's place

-- the first cell of byte k is no further than eight times k
pub first_near : (w k : ℕ) {row : ℕ} → 0 < w → row ≡ div_ceil w 8 → k / row * w + k % row * 8 ≤ 8 * k
first_near w k {row} h e =
    let l : k / row * w ≤ k / row * (8 * row) = mul-le-mul_left (k / row) (omega arith) in
    let m : k / row * (8 * row) ≡ 8 * (k / row * row) = mul_left_comm (k / row) 8 row in
    let d : k / row * row + k % row ≡ k = div-add-mod' k row in
    omega arith

-- where eight cells are left of a row or more, its byte has eight
pub eight_cells : (cells : List ℕ) (c x : ℕ) {v : ℕ} → 8 ≤ x → v ≡ bits cells c 8 → v ≡ bits cells c (min 8 x)
eight_cells cells c x h e = let m : min 8 x ≡ 8 = omega arith in rw m e

pub ruleset packed_laws = (first_near, eight_cells)
