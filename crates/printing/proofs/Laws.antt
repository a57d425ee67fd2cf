-- What a step of the code says of what is printed.
use Rattle.std.specs.Prelude.{◌≡◌, ℕ, ℤ, Some, None}
use Rattle.std.specs.Fmt as Printed
use Rattle.std.specs.Int.RustNames.{FitsSigned}
use Rattle.std.proofs.Math.Option.{some}
use mir.Syntax.{w32}
use mir.Val.{to_z, of_z}
use Rattle.text.specs.Ascii.{ascii}
use Rattle.text.specs.declared.TextLocation.{TextLocation}
use Rattle.error.specs.declared.Refusal.{Refusal}
use Rattle.error.specs.Error.{told_refusal}
use Rattle.print.specs.declared.Buffer.{Buffer}
use Rattle.print.specs.Puts.{Puts}
use Rattle.print.proofs.Decimal.{signed-given}
use Rattle.print.proofs.Steps.{puts-two, puts-three}
use Rattle.printing.specs.Printed.{field_text, place_text, hot_text, printed}

module _ {o o₁ o₂ o₃ : Buffer} where
  pub pair-put : (x y : ℤ) → FitsSigned w32 x → FitsSigned w32 y → Puts (Printed.signed_decimal (to_z w32 (of_z w32 x))) o o₁ → Puts (ascii " ") o₁ o₂
      → Puts (Printed.signed_decimal (to_z w32 (of_z w32 y))) o₂ o₃ → Puts (hot_text (some (x, y))) o o₃
  pair-put x y h k p q r = puts-three _ _ (rw (signed-given x h) at p) q _ (rw (signed-given y k) at r)

-- a refusal: its number, its place where one is told, the line's end
module _ {o o₁ o₂ : Buffer} (e : Refusal) {n : ℕ} (f : Puts (field_text (ascii "refused ") n) o o₁) (g : n ≡ e.number) where
  pub refusal-placed : {o₃ : Buffer} {p : TextLocation} → e.place ≡ Some p → Puts (place_text p) o₁ o₂ → Puts (ascii "\n") o₂ o₃ → Puts (printed (told_refusal e) 0) o o₃
  refusal-placed h p q = rw (h, ← g) (puts-three _ _ f p _ q)

  pub refusal-unplaced : e.place ≡ None → Puts (ascii "\n") o₁ o₂ → Puts (printed (told_refusal e) 0) o o₂
  refusal-unplaced h q = rw (h, ← g) (puts-two _ _ f q)
