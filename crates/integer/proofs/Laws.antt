-- Laws of decimal values.
use Rattle.std.specs.Prelude.{ℕ, ◌+◌, ◌-◌, ◌*◌, ◌<◌, ◌≤◌, min, List, [], ◌∷◌, ◌≡◌, Err}
use Rattle.std.proofs.Common.{arith, length, get_or, drop, drop-cons, add-one}
use borrow.Author.Tests.{le-leb, lt-leb}
use Rattle.text.specs.Place.{pick}
use Rattle.integer.specs.declared.Fault.TheVariants.{NotDigit, OutOfRange}
use Rattle.integer.specs.Decimal.{is_digit, all_digits, value_from, digits_from}

-- more digits make no smaller value
value_grows : (x : ℕ) (w : List ℕ) → x ≤ value_from x w
value_grows x [] = omega arith
value_grows x (d ∷ t) = omega (arith, value_grows (x * 10 + (d - 48)) t)

-- a value that is too large stays so, and what is told of it is a byte that is no digit, or else the range
beyond : (x : ℕ) (w : List ℕ) → 4294967295 < x → digits_from x w ≡ pick (all_digits w) (Err OutOfRange) (Err NotDigit)
unfolding digits_from
beyond x w h = rw (lt-leb (value_from x w) 4294967295 (omega (arith, value_grows x w)))

-- so one of them stands for all
capped_same : (y : ℕ) (w : List ℕ) → digits_from (min y 4294967296) w ≡ digits_from y w
capped_same y w = grind (arith, beyond)

-- one digit more
pub digit_read : (x i : ℕ) (w : List ℕ) → i < length w → 48 ≤ get_or w i 0 → get_or w i 0 ≤ 57
    → digits_from x (drop i w) ≡ digits_from (min (x * 10 + (get_or w i 0 - 48)) 4294967296) (drop (i + 1) w)
unfolding digits_from is_digit
digit_read x i w l a b = rw (capped_same, add-one, drop-cons w i 0 l, le-leb _ _ a, le-leb _ _ b)
