-- The theorems about what specs/Alike.antt defines.
use Rattle.std.specs.Prelude.{ℕ, ◌≤◌, ◌<◌, ◌≡◌, ◌+◌, ◌*◌, ◌⊎◌, refl, Bool, true, false, Result, Ok, Err}
use Rattle.std.proofs.Common.{arith, inl, inr, eqb-true}
use Rattle.std.proofs.Math.Decide.{dec_lt}
use Rattle.std.proofs.lemmas.Bool.Decides.{nat_tests}
use Rattle.stored.specs.declared.Position.{Position}
use Rattle.stored.specs.declared.Size.{Size}
use Rattle.stored.specs.declared.Spot.{Spot}
use Rattle.stored.specs.declared.Symbol.{Symbol}
use Rattle.stored.specs.declared.Told.{Told}
use Rattle.stored.specs.declared.Difference.{Difference}
use Rattle.stored.specs.declared.Difference.TheVariants.{Number, Place, Sides, Hotspot, Name, Cells}
use Rattle.stored.specs.Record.{counts_as, same_place, same_sides, same_hotspot, same_name, unless, verdict_on}
use Rattle.stored.specs.Alike.{Counts, height, other, width, x-hot, y-hot, Alike}

-- what the test says of a number: it is one of four, or the original's own
four : (m n : ℕ) → counts_as m n ≡ true → 11 ≤ n → n ≤ 14 → (n * 10 + 1 ≤ m) × (m ≤ n * 10 + 4)
four m n h above below = grind (arith, nat_tests)

own : (m n : ℕ) → counts_as m n ≡ true → (n < 11) ⊎ (14 < n) → m ≡ n
own m n h beside = grind (arith, nat_tests)

counted : (m n : ℕ) → counts_as m n ≡ true → Counts m n
counted m n h = at (dec_lt n 11) (dec_lt n 12) (dec_lt n 13) (dec_lt n 14) (dec_lt n 15)
  where
    at : Dec (n < 11) → Dec (n < 12) → Dec (n < 13) → Dec (n < 14) → Dec (n < 15) → Counts m n
    at (yes p) _ _ _ _ = other (inl p) (own m n h (inl p))
    at (no p) (yes q) _ _ _ = let f = four m n h (omega arith) (omega arith) in width (omega arith) (omega arith) (omega arith)
    at (no p) (no q) (yes r) _ _ = let f = four m n h (omega arith) (omega arith) in height (omega arith) (omega arith) (omega arith)
    at (no p) (no q) (no r) (yes s) _ = let f = four m n h (omega arith) (omega arith) in x-hot (omega arith) (omega arith) (omega arith)
    at (no p) (no q) (no r) (no s) (yes t) = let f = four m n h (omega arith) (omega arith) in y-hot (omega arith) (omega arith) (omega arith)
    at (no p) (no q) (no r) (no s) (no t) = other (inr (omega arith)) (own m n h (inr (omega arith)))

-- two parts of which the test says so are one
one_place : (a b : Position) → same_place a b ≡ true → a ≡ b
one_place a b h = grind (arith, nat_tests)

one_sides : (a b : Size) → same_sides a b ≡ true → a ≡ b
one_sides a b h = grind (arith, nat_tests)

one_hotspot : (a b : Spot) → same_hotspot a b ≡ true → a ≡ b
one_hotspot a b h = grind (arith, nat_tests)

one_name : (a b : Symbol) → same_name a b ≡ true → a ≡ b
one_name a b h = grind (arith, nat_tests)

-- a step that tells of no difference: its parts are the same, and what follows tells of none
step : (same : Bool) (d : Difference) (next : Result (Unit {0}) Difference) → unless same d next ≡ Ok tt → (same ≡ true) × (next ≡ Ok tt)
step true d next q = (refl, q)
step false d next q = let z : ⊥ = cc in absurd z

numbered : (m n : ℕ) (w : Result (Unit {0}) Difference) → unless (counts_as m n) Number w ≡ Ok tt → Counts m n × (w ≡ Ok tt)
numbered m n w q = let (h, k) = step _ _ _ q in (counted m n h, k)

not-number : Err Number ≡ Ok (tt {0}) → ⊥
not-number e = cc

not-place : Err Place ≡ Ok (tt {0}) → ⊥
not-place e = cc

not-sides : Err Sides ≡ Ok (tt {0}) → ⊥
not-sides e = cc

not-hotspot : Err Hotspot ≡ Ok (tt {0}) → ⊥
not-hotspot e = cc

not-name : Err Name ≡ Ok (tt {0}) → ⊥
not-name e = cc

not-cells : Err Cells ≡ Ok (tt {0}) → ⊥
not-cells e = cc

pub same_alike : (a b : Told) → verdict_on a b ≡ Ok tt → Alike a b
same_alike a b q =
    let (number, q1) = numbered _ _ _ q in
    let (place, q2) = step _ _ _ q1 in
    let (sides, q3) = step _ _ _ q2 in
    let (hotspot, q4) = step _ _ _ q3 in
    let (name, q5) = step _ _ _ q4 in
    let (cells, q6) = step _ _ _ q5 in
    record {
      number = number;
      place = one_place _ _ place;
      sides = one_sides _ _ sides;
      hotspot = one_hotspot _ _ hotspot;
      name = one_name _ _ name;
      «pixel-sum» = eqb-true _ _ cells;
    }
