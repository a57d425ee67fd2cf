-- The theorems about what specs/Decimal.antt defines.
use Rattle.std.specs.Prelude.{ℕ, zero, suc, ◌+◌, ◌-◌, ◌*◌, ◌/◌, ◌%◌, ◌^◌, ◌≤◌, ◌<◌, ◌≡◌, List, [], ◌∷◌, ◌++◌, ℤ, pos, negsuc, length}
use Rattle.std.proofs.Common.{arith, pow-suc, sym, ap, ◌∙◌, length-append, lt-ltb, le-ltb}
use Rattle.std.proofs.Math.Decide.{dec_lt}
use Rattle.std.proofs.lemmas.Fmt.{decimal_from_appends, length-decimal-le}
use Rattle.std.specs.Fmt as Printed
use Rattle.std.specs.Int.RustNames.{FitsSigned}
use mir.Syntax.{w32}
use mir.Val.{to_z, of_z}
use mir.ValLaws.{to_z-of_z}
use Rattle.integer.specs.Decimal.{value_from}
use Rattle.print.specs.Decimal.{digits, decimal, signed}

-- ---- laws

-- a step of the printer, of k + 1 digits
digits-small : (k n : ℕ) → n < 10 → digits (suc k) n ≡ (48 + n) ∷ []
unfolding digits
digits-small k n h = rw (lt-ltb n 10 h)

digits-large : (k n : ℕ) → 10 ≤ n → digits (suc k) n ≡ digits k (n / 10) ++ ((48 + n % 10) ∷ [])
unfolding digits
digits-large k n h = rw (le-ltb n 10 h)

-- more digits allowed than needed change nothing
digits_more : (k n : ℕ) → n < 10 ^ suc k → digits (suc k) n ≡ digits (suc (suc k)) n
unfolding digits
digits_more zero n h = rw (lt-ltb n 10 h)
digits_more (suc k) n h = rw (digits_more k (n / 10) (omega (arith, pow-suc 10 (suc k))))

pub decimal-small : (n : ℕ) → n < 10 → (48 + n) ∷ [] ≡ decimal n
decimal-small n h = sym (digits-small 19 n h)

pub decimal-large : (n : ℕ) → 10 ≤ n → n < 2 ^ 64 → decimal (n / 10) ++ ((48 + n % 10) ∷ []) ≡ decimal n
decimal-large n h l = rw (digits-large 19 n h, digits_more 18 (n / 10) (omega arith))

-- they are what the library prints
pub decimal-printed : (n : ℕ) → n < 2 ^ 64 → Printed.decimal n ≡ decimal n
decimal-printed n h =
    sym (decimal_from_appends digits (record { one = digits-small; more = digits-large }) 20 n h (length-decimal-le 20 n (omega arith) (omega arith) h))

pub signed-printed : (z : ℤ) → FitsSigned w32 z → Printed.signed_decimal z ≡ signed z
signed-printed (pos n) h = decimal-printed n (omega (arith, h.sfits))
signed-printed (negsuc n) h = ap (λ (d : List ℕ). 45 ∷ d) (decimal-printed (suc n) (omega (arith, h.sfits)))

-- what a call is given of a number with a sign is read off its bits
pub signed-given : (z : ℤ) → FitsSigned w32 z → Printed.signed_decimal (to_z w32 (of_z w32 z)) ≡ signed z
signed-given z h = rw (to_z-of_z w32 z h) (signed-printed z h)

value-last : (x : ℕ) (w : List ℕ) (d : ℕ) → value_from x (w ++ ((48 + d) ∷ [])) ≡ value_from x w * 10 + d
value-last x [] d = omega arith
value-last x (b ∷ w) d = value-last (x * 10 + (b - 48)) w d

-- the digits of a number have its value
pub digits_value : (k n : ℕ) → n < 10 ^ k → value_from 0 (digits k n) ≡ n
unfolding digits
digits_value zero n h = omega arith
digits_value (suc k) n h = go (dec_lt n 10) (λ l. digits_value k (n / 10) l)
  where
    go : Dec (n < 10) → (n / 10 < 10 ^ k → value_from 0 (digits k (n / 10)) ≡ n / 10) → value_from 0 (digits (suc k) n) ≡ n
    go (yes l) f = rw (digits-small k n l) (omega arith)
    go (no l) f = rw (digits-large k n (omega arith)) (value-last 0 (digits k (n / 10)) (n % 10) ∙ omega (arith, f (omega (arith, pow-suc 10 k))))

-- and are few
pub digits-short : (k n : ℕ) → length (digits k n) ≤ k
unfolding digits
digits-short zero n = omega arith
digits-short (suc k) n = go (dec_lt n 10) (digits-short k (n / 10))
  where
    go : Dec (n < 10) → length (digits k (n / 10)) ≤ k → length (digits (suc k) n) ≤ suc k
    go (yes l) f = rw (digits-small k n l) (omega arith)
    go (no l) f = rw (digits-large k n (omega arith)) (omega (arith, length-append (digits k (n / 10)) ((48 + n % 10) ∷ [])))

pub signed-short : (z : ℤ) → length (signed z) ≤ 21
signed-short (pos n) = omega (arith, digits-short 20 n)
signed-short (negsuc n) = omega (arith, digits-short 20 (suc n))
