-- The class of bytes that a closure decides.
use Rattle.std.specs.Prelude.{ℕ, ◌≡◌, Bool, true, false, Result}
use Rattle.std.specs.Option.{IsSomeAnd, MatchOption}
use Rattle.std.specs.Result.{MatchResult}
use Rattle.text.specs.declared.TextReader.{TextReader}
use Rattle.text.specs.TextReader.{next_of, moved_on}
use Rattle.lexical.specs.declared.XbmPart.{XbmPart}

-- of each byte the closure answers whether it is of the class
pub record Decides (post : ℕ → Bool → Type 0) (class : ℕ → Bool) : Type 0 where
  pub decides : (b : ℕ) (r : Bool) → post b r → r ≡ class b

-- the next byte is taken, and the answer is what a closure says of it: refused in a part if there is none or it says false
pub record Judged (post : ℕ → Bool → Type 0) (part : XbmPart) (old new : TextReader) (r : Result (Unit {0}) XbmPart) : Type 0 where
  pub taken : new ≡ moved_on old
  pub judged : MatchResult r (λ a. IsSomeAnd (next_of old) (λ b. post b true)) (λ x. (x ≡ part) × MatchOption (next_of old) (Unit {0}) (λ b. post b false))
