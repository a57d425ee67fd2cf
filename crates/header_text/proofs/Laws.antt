-- What a step of the code says of the header's text.
use Rattle.std.specs.Prelude.{ℕ, List, ℤ}
use Rattle.std.specs.Fmt as Printed
use Rattle.std.specs.Int.RustNames.{FitsSigned}
use mir.Syntax.{w32}
use mir.Val.{to_z, of_z}
use Rattle.print.specs.declared.Buffer.{Buffer}
use Rattle.print.specs.Puts.{Puts}
use Rattle.std.proofs.Math.Option.{some}
use Rattle.text.specs.Ascii.{ascii}
use Rattle.print.proofs.Steps.{puts-two}
use Rattle.print.proofs.Decimal.{signed-given}
use Rattle.header_text.specs.HeaderText.{define_text, spot_text}

module _ (name : List ℕ) {o o₁ o' : Buffer} where
  pub spot-put : (x y : ℤ) → FitsSigned w32 x → FitsSigned w32 y → Puts (define_text name (ascii "_x_hot") (Printed.signed_decimal (to_z w32 (of_z w32 x)))) o o₁
      → Puts (define_text name (ascii "_y_hot") (Printed.signed_decimal (to_z w32 (of_z w32 y)))) o₁ o' → Puts (spot_text name (some (x, y))) o o'
  spot-put x y h k p q = puts-two _ _ (rw (signed-given x h) at p) (rw (signed-given y k) at q)
