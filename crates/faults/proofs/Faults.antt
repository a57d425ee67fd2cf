-- THE CLAIMS ON AN INTEGER'S TOKEN: what is answered of it, and of one that is none which of four faults it has. To believe them, read the words
-- (Terms, and the grammar's integers) and this file. No reader stands in a statement but `parse_u32` and `parse_i32`, which the contracts of the code cite.
use Rattle.std.specs.Prelude.{◌≡◌, ◌↔◌, ◌⊎◌, ℕ, List, ℤ, Result, Ok, Err}
use Rattle.std.proofs.Common.{inl, inr, arith}
use Rattle.integer.specs.declared.Fault.{Fault}
use Rattle.integer.specs.declared.Fault.TheVariants.{Empty, LeadingZero, NotDigit, OutOfRange}
use Rattle.integer.specs.Decimal.{parse_u32, parse_i32}
use Rattle.faults.specs.Terms.{Nothing, ZeroLed, Marred, Above, PastSign, Beyond, Says, SaysSigned, NoSide, NoCoordinate}
use Rattle.faults.proofs.Tokens

-- A token of any length has just the answer whose words it meets: so it is an integer in range, or it has one of the four faults, and never two of these.
pub sides : (w : List ℕ) (r : Result ℕ Fault) → (parse_u32 w ≡ r) ↔ Says r w
sides w r = ((λ q. rw q at (Tokens.answer-says w)), Tokens.says-answer r w)

pub coordinates : (w : List ℕ) (r : Result ℤ Fault) → (parse_i32 w ≡ r) ↔ SaysSigned r w
coordinates w r = ((λ q. rw q at (Tokens.signed-says w)), Tokens.says-signed r w)

-- What writes no integer in range has a fault, and what has a fault writes none.
pub no-side : (w : List ℕ) → NoSide w ↔ (Nothing w ⊎ (ZeroLed w ⊎ (Marred w ⊎ Above 4294967295 w)))
no-side w = (
  (λ g. go g (parse_u32 w) (Tokens.answer-says w)),
  λ h n d l. one n ((sides w (Ok n)).1 (d, l)) h,
)
  where
    go : NoSide w → (r : Result ℕ Fault) → Says r w → Nothing w ⊎ (ZeroLed w ⊎ (Marred w ⊎ Above 4294967295 w))
    go g (Ok n) (d, l) = absurd (g n d l)
    go g (Err Empty) h = inl h
    go g (Err LeadingZero) h = inr (inl h)
    go g (Err NotDigit) h = inr (inr (inl h))
    go g (Err OutOfRange) h = inr (inr (inr h))

    two : (n : ℕ) (f : Fault) → parse_u32 w ≡ Ok n → parse_u32 w ≡ Err f → ⊥
    two n f p q = let z : ◌≡◌ {A = ℕ} 0 1 = cc in omega arith

    one : (n : ℕ) → parse_u32 w ≡ Ok n → Nothing w ⊎ (ZeroLed w ⊎ (Marred w ⊎ Above 4294967295 w)) → ⊥
    one n p (inl h) = two n Empty p ((sides w (Err Empty)).1 h)
    one n p (inr (inl h)) = two n LeadingZero p ((sides w (Err LeadingZero)).1 h)
    one n p (inr (inr (inl h))) = two n NotDigit p ((sides w (Err NotDigit)).1 h)
    one n p (inr (inr (inr h))) = two n OutOfRange p ((sides w (Err OutOfRange)).1 h)

pub no-coordinate : (w : List ℕ) → NoCoordinate w ↔ (PastSign Nothing w ⊎ (PastSign ZeroLed w ⊎ (PastSign Marred w ⊎ Beyond w)))
no-coordinate w = (
  (λ g. go g (parse_i32 w) (Tokens.signed-says w)),
  λ h z c. one z ((coordinates w (Ok z)).1 c) h,
)
  where
    go : NoCoordinate w → (r : Result ℤ Fault) → SaysSigned r w → PastSign Nothing w ⊎ (PastSign ZeroLed w ⊎ (PastSign Marred w ⊎ Beyond w))
    go g (Ok z) c = absurd (g z c)
    go g (Err Empty) h = inl h
    go g (Err LeadingZero) h = inr (inl h)
    go g (Err NotDigit) h = inr (inr (inl h))
    go g (Err OutOfRange) h = inr (inr (inr h))

    two : (z : ℤ) (f : Fault) → parse_i32 w ≡ Ok z → parse_i32 w ≡ Err f → ⊥
    two z f p q = let x : ◌≡◌ {A = ℕ} 0 1 = cc in omega arith

    one : (z : ℤ) → parse_i32 w ≡ Ok z → PastSign Nothing w ⊎ (PastSign ZeroLed w ⊎ (PastSign Marred w ⊎ Beyond w)) → ⊥
    one z p (inl h) = two z Empty p ((coordinates w (Err Empty)).1 h)
    one z p (inr (inl h)) = two z LeadingZero p ((coordinates w (Err LeadingZero)).1 h)
    one z p (inr (inr (inl h))) = two z NotDigit p ((coordinates w (Err NotDigit)).1 h)
    one z p (inr (inr (inr h))) = two z OutOfRange p ((coordinates w (Err OutOfRange)).1 h)
