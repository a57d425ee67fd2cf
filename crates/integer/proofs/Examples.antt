-- Worked examples, computed from the definitions: tokens, and what each is as a side and as a coordinate of the hotspot.
use Rattle.std.specs.Prelude.{ℕ, ◌≡◌, refl, List, [], ◌∷◌, ◌++◌, map, replicate, pos, neg_ℤ, ℤ, Result, Ok, Err}
use Rattle.text.specs.Ascii.{ascii}
use Rattle.integer.specs.Decimal.{is_digit, digits_from, parse_u32, parse_i32}
use Rattle.integer.specs.declared.Fault.{Fault}
use Rattle.integer.specs.declared.Fault.TheVariants.{Empty, LeadingZero, NotDigit, OutOfRange}

record Row : Type 0 where
  token : List ℕ
  answer : Result ℕ Fault × Result ℤ Fault

abbrev row : List ℕ → Result ℕ Fault → Result ℤ Fault → Row
row w u s = record { token = w; answer = (u, s) }

abbrev rows : List Row
rows =
    row (ascii "") (Err Empty) (Err Empty)
    ∷ row (ascii "-") (Err NotDigit) (Err Empty)
    ∷ row (ascii "0") (Ok 0) (Ok (pos 0))
    ∷ row (ascii "-0") (Err NotDigit) (Ok (pos 0))
    ∷ row (ascii "9") (Ok 9) (Ok (pos 9))
    ∷ row (ascii "00") (Err LeadingZero) (Err LeadingZero)
    ∷ row (ascii "014") (Err LeadingZero) (Err LeadingZero)
    ∷ row (ascii "014z") (Err LeadingZero) (Err LeadingZero)
    ∷ row (ascii "0z") (Err LeadingZero) (Err LeadingZero)
    ∷ row (ascii "0-") (Err LeadingZero) (Err LeadingZero)
    ∷ row (48 ∷ 0 ∷ []) (Err LeadingZero) (Err LeadingZero)
    ∷ row (ascii "-00") (Err NotDigit) (Err LeadingZero)
    ∷ row (ascii "-014") (Err NotDigit) (Err LeadingZero)
    ∷ row (ascii "-0z") (Err NotDigit) (Err LeadingZero)
    ∷ row (ascii "+1") (Err NotDigit) (Err NotDigit)
    ∷ row (ascii "1z") (Err NotDigit) (Err NotDigit)
    ∷ row (ascii "9\r") (Err NotDigit) (Err NotDigit)
    ∷ row (ascii "--1") (Err NotDigit) (Err NotDigit)
    ∷ row (ascii "-z") (Err NotDigit) (Err NotDigit)
    ∷ row (ascii "1/") (Err NotDigit) (Err NotDigit)
    ∷ row (ascii "1:") (Err NotDigit) (Err NotDigit)
    ∷ row (ascii "9999999999z") (Err NotDigit) (Err NotDigit)
    ∷ row (ascii "4294967296z") (Err NotDigit) (Err NotDigit)
    ∷ row (ascii "2147483647") (Ok 2147483647) (Ok (pos 2147483647))
    ∷ row (ascii "2147483648") (Ok 2147483648) (Err OutOfRange)
    ∷ row (ascii "-2147483648") (Err NotDigit) (Ok (neg_ℤ (pos 2147483648)))
    ∷ row (ascii "-2147483649") (Err NotDigit) (Err OutOfRange)
    ∷ row (ascii "4294967295") (Ok 4294967295) (Err OutOfRange)
    ∷ row (ascii "4294967296") (Err OutOfRange) (Err OutOfRange)
    ∷ row (ascii "99999999999") (Err OutOfRange) (Err OutOfRange)
    ∷ row (replicate 3000 57) (Err OutOfRange) (Err OutOfRange)
    ∷ row (replicate 3000 57 ++ ascii "z") (Err NotDigit) (Err NotDigit)
    ∷ []

-- the same by the definitions
abbrev says : Row → Result ℕ Fault × Result ℤ Fault
says r = (parse_u32 r.token, parse_i32 r.token)

pub table : map says rows ≡ map (λ r. r.answer) rows
unfolding digits_from is_digit
table = refl
