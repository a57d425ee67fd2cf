-- A token that is refused with a fault's number has that fault, in its own words.
use Rattle.std.specs.Prelude.{◌≡◌, refl, ◌↔◌, ℕ, zero, suc, ◌+◌, List, ℤ, Result, Ok, Err}
use Rattle.std.proofs.Common.{sym, ap, ◌∙◌, arith}
use Rattle.std.proofs.Math.Option.{none}
use Rattle.integer.specs.declared.Fault.{Fault}
use Rattle.integer.specs.declared.Fault.TheVariants.{Empty, LeadingZero, NotDigit, OutOfRange}
use Rattle.integer.specs.Decimal.{parse_u32, parse_i32, value_in, fault_number, fault_in}
use Rattle.grammar.proofs.Tests.{number, integer}
use Rattle.faults.specs.Terms.{Says, SaysSigned}
use Rattle.faults.proofs.Faults.{sides, coordinates}
use Rattle.refusals.proofs.Stages.{both_ways}

-- a fault's number is no other's
abbrev fault_at : ℕ → Fault
fault_at zero = Empty
fault_at (suc zero) = Empty
fault_at (suc (suc zero)) = LeadingZero
fault_at (suc (suc (suc zero))) = NotDigit
fault_at (suc (suc (suc (suc n)))) = OutOfRange

fault-back : (f : Fault) → fault_at (fault_number f) ≡ f
fault-back Empty = refl
fault-back LeadingZero = refl
fault-back NotDigit = refl
fault-back OutOfRange = refl

one-fault : (f g : Fault) → fault_number f ≡ fault_number g → f ≡ g
one-fault f g q = sym (fault-back f) ∙ ap fault_at q ∙ fault-back g

-- a side's token that is refused with the fault's number has it, in its own words
pub side-fault : (c : ℕ) (f : Fault) (w : List ℕ) → ((number w ≡ none) × (c + fault_in (parse_u32 w) ≡ c + fault_number f)) ↔ Says (Err f) w
side-fault c f w = both_ways (there (parse_u32 w), λ q. (ap value_in q, ap (λ (u : Result ℕ Fault). c + fault_in u) q)) (sides w (Err f))
  where
    there : (u : Result ℕ Fault) → (value_in u ≡ none) × (c + fault_in u ≡ c + fault_number f) → u ≡ Err f
    there (Ok n) (p, q) = let z : ◌≡◌ {A = ℕ} 0 1 = cc in absurd (omega arith)
    there (Err g) (p, q) = ap (λ (k : Fault). Err k) (one-fault g f (omega arith))

-- a coordinate's token that is refused with the fault's number has it, in its own words
pub coordinate-fault : (c : ℕ) (f : Fault) (w : List ℕ) → ((integer w ≡ none) × (c + fault_in (parse_i32 w) ≡ c + fault_number f)) ↔ SaysSigned (Err f) w
coordinate-fault c f w = both_ways (there (parse_i32 w), λ q. (ap value_in q, ap (λ (u : Result ℤ Fault). c + fault_in u) q)) (coordinates w (Err f))
  where
    there : (u : Result ℤ Fault) → (value_in u ≡ none) × (c + fault_in u ≡ c + fault_number f) → u ≡ Err f
    there (Ok z) (p, q) = let x : ◌≡◌ {A = ℕ} 0 1 = cc in absurd (omega arith)
    there (Err g) (p, q) = ap (λ (k : Fault). Err k) (one-fault g f (omega arith))
