-- What a step of the code says of hex bytes.
use mir.Syntax.{w8}
use mir.Val.{Fits}
use Prim.Native.Nat.{ℕ, zero, suc, ◌+◌, ◌*◌, ◌≤◌, ◌<◌}
use native.Mathlib.Omega.{arith}
use borrow.Author.Tests.{lt-ltb, le-ltb, ltb-true}
use mathlib.Core.Path.{◌≡◌, refl, ap, ◌∙◌}
use mathlib.Core.Option.{none, some}
use mathlib.Core.List.{List, [], ◌∷◌}
use mathlib.Core.Bool.{Bool, true, false}
use lib.ListN.{get_or}
use lib.Dec.{ltb}
use Rattle.std.specs.Prelude.{Some, None, Result as Answer, Ok}
use Rattle.text.specs.declared.TextLocation.{TextLocation}
use Rattle.text.specs.declared.TextReader.{TextReader}
use Rattle.text.specs.Place.{pick, rest, after}
use Rattle.text.specs.Reader.{ok, then, ◌>>=◌}
use Rattle.text.specs.Leaf.{give, one, first, judge}
use Rattle.lexical.specs.declared.XbmPart.{XbmPart}
use Rattle.lexical.specs.Reads.{Reads}
use Rattle.hexadecimal.specs.Hex.{hex_of, value_of, values_from, hex_table, hexv, hex_digit, hex_start, hex_digits, hex_unit, hex_byte}

-- a digit that was read is below 16
digit-small : (c : ℕ) {r₀ r₁ : TextReader} {m : Answer ℕ XbmPart} {v : ℕ} → Reads (hex_digit c) r₀ r₁ m → m ≡ Ok v → v < 16
unfolding hex_digit one hexv
digit-small c {r₀} {r₁} {m} {v} e h = go (rest r₀.text.now r₀.location) (rw h at e.answer)
  where
    fin : (b : ℕ) (w : Bool) → ltb (hex_of b) 16 ≡ w → (n : TextLocation) → ok v r₁.location ≡ judge c (pick w (some (hex_of b)) none) n → v < 16
    fin b true u n k = let x : v ≡ hex_of b = cc in omega (arith, ltb-true (hex_of b) 16 u)
    fin b false u n k = let z : ◌≡◌ {A = ℕ} 0 1 = cc in absurd (omega arith)

    go : (l : List ℕ) → ok v r₁.location ≡ first c (λ b. pick (ltb (hex_of b) 16) (some (hex_of b)) none) l r₀.location → v < 16
    go [] k = let z : ◌≡◌ {A = ℕ} 0 1 = cc in absurd (omega arith)
    go (b ∷ l) k = fin b (ltb (hex_of b) 16) refl (after b r₀.location) k

module _ (c : ℕ) {r₀ r₁ : TextReader} {m : Answer ℕ XbmPart} {v : ℕ} (e : Reads (hex_digit c) r₀ r₁ m) (h : m ≡ Ok v) where
  pub hi-fits : Fits w8 (v * 16)
  hi-fits = let a = digit-small c e h in omega arith

  pub byte_fits : {r₂ r₃ : TextReader} {n : Answer ℕ XbmPart} {w : ℕ} → Reads (hex_digit c) r₂ r₃ n → n ≡ Ok w → Fits w8 (v * 16 + w)
  byte_fits f k = let a = digit-small c e h in let b = digit-small c f k in omega arith

-- a byte, by its readings
pub byte_then : (c : ℕ) (t : List ℕ) (i : TextLocation) → hex_byte c t i
    ≡ then (hex_start c t i) (λ a e. then (hex_digit c t e) (λ h e. then (hex_digit c t e) (λ l e. ok (h * 16 + l) e)))
unfolding hex_unit hex_digits ◌>>=◌ give
byte_then c t i = refl

pub ruleset byte_steps = (byte_then, hi-fits, byte_fits)

-- the table's rule, at each entry
values-at : (k n b : ℕ) → b < n → get_or (values_from k n) b 0 ≡ hex_of (k + b)
values-at k zero b h = absurd (omega arith)
values-at k (suc n) zero h = ap hex_of (omega arith)
values-at k (suc n) (suc b) h = values-at (suc k) n b (omega arith) ∙ ap hex_of (omega arith)

pub hex_there : (s : List ℕ) (b : ℕ) → s ≡ hex_table → b < 256 → get_or s b 0 ≡ hex_of b
unfolding hex_table
hex_there s b e h = rw e (values-at 0 256 b h ∙ ap hex_of (omega arith))

-- a digit by the table
pub digit_there : (b : ℕ) {v : ℕ} → v ≡ hex_of b → v < 16 → Some v ≡ value_of b
digit_there b {v} e h = rw (← e, lt-ltb v 16 h)

pub digit_none : (b : ℕ) {v : ℕ} → v ≡ hex_of b → 16 ≤ v → None ≡ value_of b
digit_none b {v} e h = rw (← e, le-ltb v 16 h)

pub ruleset table_laws = (digit_there, digit_none, hex_there)
