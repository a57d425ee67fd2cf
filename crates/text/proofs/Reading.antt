-- What a step of the code says of a reader's definition. Each law's premises are what a call ensures and what a `match` or a test tells,
-- and its conclusion is `result ≡ definition`, so `search` puts them together.
use Rattle.std.proofs.Common.{◌≡◌, ℕ, List}
use mathlib.Core.Option.{Option, some}
use Rattle.std.specs.Prelude.{Option as Taken, Some, None}
use Rattle.text.specs.declared.TextLocation.{TextLocation}
use Rattle.text.specs.Place.{after, peeked_at}
use Rattle.text.specs.Reader.{Result, ok, stop}
use Rattle.text.specs.Leaf.{one, run, Move, go_on, stay, halt}
use Rattle.text.proofs.Laws.{next-rest, end_rest}

-- a byte
module _ {A : Type 0} (c : ℕ) (g : ℕ → Option A) (t : List ℕ) (i : TextLocation) {r : Taken ℕ} (e : r ≡ peeked_at t i) where
  pub one_end : r ≡ None → stop c i ≡ one c g t i
  unfolding one
  one_end m = rw (end_rest t i e m)

-- a run; z is what the whole run gives
module _ {S A : Type 0} (c : ℕ) (step : S → ℕ → Move S A) (fin : S → Option A) (s : S) (t : List ℕ) (i : TextLocation) {z : Result A} {r : Taken ℕ} (e : r ≡ peeked_at t i) where
  pub run_on : {b : ℕ} {s' : S} → r ≡ Some b → step s b ≡ go_on s' → run c step fin s t i ≡ z → run c step fin s' t (after b i) ≡ z
  unfolding run
  run_on m h k = rw (next-rest t i e m, h) at k

  pub run-stay : {b : ℕ} {a : A} → r ≡ Some b → step s b ≡ stay a → run c step fin s t i ≡ z → ok a i ≡ z
  unfolding run
  run-stay m h k = rw (next-rest t i e m, h) at k

  pub run-halt : {b : ℕ} → r ≡ Some b → step s b ≡ halt → run c step fin s t i ≡ z → stop c i ≡ z
  unfolding run
  run-halt m h k = rw (next-rest t i e m, h) at k

  pub run_end : {a : A} → r ≡ None → fin s ≡ some a → run c step fin s t i ≡ z → ok a i ≡ z
  unfolding run
  run_end m h k = rw (end_rest t i e m, h) at k
