-- What the library's `strip_suffix` says of a suffix.
use Rattle.std.proofs.Common.{◌≡◌, ℕ, ◌-◌, false, List, [], ◌∷◌, length, drop, eqb, refl, leb, arith}
use Rattle.std.specs.Cmp.Lexicographic.{pointwise}
use Rattle.text.specs.Place.{pick}
use Rattle.symbol.specs.Symbol.{same_bytes, ends_with}

same-pointwise : (a b : List ℕ) → pointwise eqb a b ≡ same_bytes a b
same-pointwise [] [] = refl
same-pointwise [] (y ∷ b) = refl
same-pointwise (x ∷ a) [] = refl
same-pointwise (x ∷ a) (y ∷ b) = grind (arith, same-pointwise a b)

pub ends_pointwise : (w z : List ℕ) → ends_with w z ≡ pick (leb (length z) (length w)) (pointwise eqb (drop (length w - length z) w) z) false
unfolding ends_with
ends_pointwise w z = rw same-pointwise
