-- The theorems about what specs/Yields.antt defines.
use Rattle.std.specs.Prelude.{◌≡◌, ℕ, List, refl}
use Rattle.std.proofs.Common.{arith}
use Rattle.text.specs.declared.TextLocation.{TextLocation}
use Rattle.text.specs.Reader.{Result, ok, stop, bad, then, Reader, ◌>>=◌}
use Rattle.text.specs.Leaf.{give}
use Rattle.text.specs.Yields.{Yields}

-- where every value of the first is K
pub yields-from : {A B : Type 0} {p : Reader A} {f : A → Reader B} (K : A → Type 0) {G : B → Type 0} → Yields p K → ((a : A) → K a → Yields (f a) G) → Yields (p >>= f) G
unfolding ◌>>=◌
yields-from {A} {B} {p} {f} K {G} hp hf = record { yields = λ t i b e. go t i b e (p t i) refl }
  where
    go : (t : List ℕ) (i : TextLocation) (b : B) (e : TextLocation) (r : Result A) → p t i ≡ r → then r (λ a m. f a t m) ≡ ok b e → G b
    go t i b e (ok a m) u q = (hf a (hp.yields t i a m u)).yields t m b e q
    go t i b e (stop c m) u q = let z : ◌≡◌ {A = ℕ} 0 1 = cc in absurd (omega arith)
    go t i b e (bad c m) u q = let z : ◌≡◌ {A = ℕ} 0 1 = cc in absurd (omega arith)

yields-any : {A : Type 0} {p : Reader A} → Yields p (λ a. Unit {0})
yields-any = record { yields = λ t i b e q. tt }

pub yields-bind : {A B : Type 0} (p : Reader A) {f : A → Reader B} {G : B → Type 0} → ((a : A) → Yields (f a) G) → Yields (p >>= f) G
yields-bind p h = yields-from (λ a. Unit {0}) yields-any (λ a u. h a)

pub yields-give : {A : Type 0} (a : A) {G : A → Type 0} → G a → Yields (give a) G
unfolding give
yields-give a g = record { yields = λ t i b e q. (let z : a ≡ b = cc in rw z at g) }
