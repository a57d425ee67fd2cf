-- Hexadecimal units: `0x` or `0X` and a number of digits.
use Prim.Native.Nat.{ℕ, zero, suc, ◌+◌, ◌-◌, ◌*◌}
use Rattle.std.proofs.Math.Option.{Option, none, some}
use Rattle.std.specs.Prelude.{List, [], ◌∷◌, Bool, true, false, leb, ltb, eqb, Option as Value, Some, None}
use Rattle.text.specs.Place.{pick}
use Rattle.text.specs.Reader.{Reader, ◌>>=◌, ◌>>◌}
use Rattle.text.specs.Leaf.{give, one}
use Rattle.lexical.specs.Lexical.{byte, fixed}

-- from `lo` to `hi`
abbrev pub within : ℕ → ℕ → ℕ → Bool
within lo hi b = pick (leb lo b) (leb b hi) false

-- a hex digit's value, of either case, and 16 of any other byte
unfoldable pub hex_of : ℕ → ℕ
hex_of b = pick (within 48 57 b) (b - 48) (pick (within 65 70 b) (b - 65 + 10) (pick (within 97 102 b) (b - 97 + 10) 16))

-- the values of n bytes from k on
abbrev pub values_from : ℕ → ℕ → List ℕ
values_from k zero = []
values_from k (suc n) = hex_of k ∷ values_from (suc k) n

-- the values of all bytes
unfoldable pub hex_table : List ℕ
hex_table = values_from 0 256

unfoldable pub hexv : ℕ → Option ℕ
hexv b = pick (ltb (hex_of b) 16) (some (hex_of b)) none

-- the same as the code answers it
abbrev pub value_of : ℕ → Value ℕ
value_of b = pick (ltb (hex_of b) 16) (Some (hex_of b)) None

unfoldable pub hex_digit : ℕ → Reader ℕ
hex_digit c = one c hexv

-- `x` or `X`
unfoldable pub is_mark : ℕ → Bool
is_mark b = pick (eqb b 120) true (eqb b 88)

unfoldable pub hex_start : ℕ → Reader (Unit {0})
hex_start c = fixed c (48 ∷ []) >> byte c is_mark

-- n more digits after ones of the value v
unfoldable pub hex_digits : ℕ → ℕ → ℕ → Reader ℕ
hex_digits c zero v = give v
hex_digits c (suc n) v = hex_digit c >>= λ d. hex_digits c n (v * 16 + d)

-- `0x` or `0X`, a digit and n more
unfoldable pub hex_unit : ℕ → ℕ → Reader ℕ
hex_unit c n = hex_start c >> hex_digit c >>= hex_digits c n

-- a unit of two digits
abbrev pub hex_byte : ℕ → Reader ℕ
hex_byte c = hex_unit c 1
