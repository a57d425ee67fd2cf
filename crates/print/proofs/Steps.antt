-- What a step of the code says of the lent buffer.
use Rattle.std.specs.Prelude.{◌≡◌, ℕ, ◌<◌, ◌^◌, List, [], ◌∷◌, ◌++◌, refl}
use Rattle.std.proofs.Common.{sym, ap, ◌∙◌}
use mathlib.Core.List.{append-nil}
use Rattle.std.specs.Fmt as Printed
use Rattle.print.specs.Decimal.{decimal}
use Rattle.print.proofs.Decimal.{decimal-printed}
use Rattle.print.specs.declared.Buffer.{Buffer}
use Rattle.print.specs.Output.{output, puts, joined}
use Rattle.print.specs.Puts.{Puts, held}
use Rattle.print.proofs.Output.{puts-append}

pub puts-none : (o : Buffer) → Puts [] o o
unfolding puts
puts-none o = record { same = refl; gives = refl }

module _ {o o' o'' : Buffer} where
  pub puts-then : (u v : List ℕ) → Puts u o o' → Puts v o' o'' → Puts (u ++ v) o o''
  puts-then u v p q = record { same = q.same ∙ p.same; gives = q.gives ∙ ap (puts v) p.gives ∙ sym (puts-append u v (held o)) }

module _ {o o' : Buffer} where
  -- a number as the library prints it
  pub puts-decimal : (n : ℕ) → n < 2 ^ 64 → Puts (Printed.decimal n) o o' → Puts (decimal n) o o'
  puts-decimal n h p = rw (← decimal-printed n h) p

-- words of several
module _ {o o₁ o₂ : Buffer} (u v : List ℕ) (p : Puts u o o₁) (q : Puts v o₁ o₂) where
  pub puts-two : Puts (joined (u ∷ v ∷ [])) o o₂
  unfolding joined
  puts-two = rw (append-nil v) (puts-then u v p q)

  module _ {o₃ : Buffer} (w : List ℕ) (r : Puts w o₂ o₃) where
    pub puts-three : Puts (joined (u ∷ v ∷ w ∷ [])) o o₃
    unfolding joined
    puts-three = rw (append-nil w) (puts-then u (v ++ w) p (puts-then v w q r))

    pub puts-four : {o₄ : Buffer} (x : List ℕ) → Puts x o₃ o₄ → Puts (joined (u ∷ v ∷ w ∷ x ∷ [])) o o₄
    unfolding joined
    puts-four x s = rw (append-nil x) (puts-then u (v ++ (w ++ x)) p (puts-then v (w ++ x) q (puts-then w x r s)))

-- the buffer that was lent, when the struct is done with
pub puts-end : {o o' : Buffer} {w lent s : List ℕ} → o.bytes.now ≡ lent → o.at ≡ 0 → Puts w o o' → s ≡ o'.bytes.now → output s o'.at ≡ puts w (output lent 0)
puts-end b z p e = rw (e, ← b, ← z) p.gives
