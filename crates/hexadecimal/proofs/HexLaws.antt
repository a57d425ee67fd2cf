-- The theorems about what specs/Hex.antt defines.
use Prim.Native.Nat.{ℕ, zero, suc, ◌+◌, ◌*◌}
use Rattle.text.specs.Reader.{Local, Firm, Mild, Grows}
use Rattle.text.proofs.Reader.{bind-local, bind-firm, bind-mild}
use Rattle.text.proofs.Leaf.{give-local, give-firm, give-mild, one_local, one-firm, one-mild, one_grows}
use Rattle.lexical.proofs.Lexical.{locals, milds, firms}
use Rattle.hexadecimal.specs.Hex.{hexv, hex_digit, hex_start, hex_digits, hex_unit}

-- ---- laws

module _ (c : ℕ) where
  pub hex_digit-local : Local (hex_digit c)
  unfolding hex_digit
  hex_digit-local = one_local c hexv

  pub hex_digit-firm : Firm (hex_digit c)
  unfolding hex_digit
  hex_digit-firm = one-firm c hexv

  pub hex_digit-mild : Mild (hex_digit c)
  unfolding hex_digit
  hex_digit-mild = one-mild c hexv

  pub hex_digit-grows : Grows (hex_digit c)
  unfolding hex_digit
  hex_digit-grows = one_grows c hexv

  pub hex_digits-local : (n v : ℕ) → Local (hex_digits c n v)
  unfolding hex_digits
  hex_digits-local zero v = give-local v
  hex_digits-local (suc n) v = bind-local hex_digit-local (λ d. hex_digits-local n (v * 16 + d))

  pub hex_digits-firm : (n v : ℕ) → Firm (hex_digits c n v)
  unfolding hex_digits
  hex_digits-firm zero v = give-firm v
  hex_digits-firm (suc n) v = bind-firm hex_digit-local (λ d. hex_digits-local n (v * 16 + d)) hex_digit-firm (λ d. hex_digits-firm n (v * 16 + d))

  pub hex_digits-mild : (n v : ℕ) → Mild (hex_digits c n v)
  unfolding hex_digits
  hex_digits-mild zero v = give-mild v
  hex_digits-mild (suc n) v = bind-mild hex_digit-local (λ d. hex_digits-local n (v * 16 + d)) hex_digit-mild (λ d. hex_digits-mild n (v * 16 + d))

  ruleset digit_laws = (hex_digit-local, hex_digit-firm, hex_digit-mild, hex_digit-grows, hex_digits-local, hex_digits-firm, hex_digits-mild)

  pub hex_unit-local : (n : ℕ) → Local (hex_unit c n)
  unfolding hex_unit hex_start
  hex_unit-local n = search (locals, digit_laws) depth 12

  pub hex_unit-mild : (n : ℕ) → Mild (hex_unit c n)
  unfolding hex_unit hex_start
  hex_unit-mild n = search (milds, locals, digit_laws) depth 12

  pub hex_unit-firm : (n : ℕ) → Firm (hex_unit c n)
  unfolding hex_unit hex_start
  hex_unit-firm n = search (firms, digit_laws) depth 20 fits 4000

  pub hex_unit-grows : (n : ℕ) → Grows (hex_unit c n)
  unfolding hex_unit hex_start
  hex_unit-grows n = search (firms, digit_laws) depth 20 fits 4000
