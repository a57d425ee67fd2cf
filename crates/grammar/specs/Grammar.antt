-- The text format: for each mask, the texts that write it. A word in quotes is a term of document 01. Nothing looks ahead, and no piece says where it has to end.
use Rattle.std.specs.Prelude.{◌≡◌, ◌⊎◌, ℕ, ◌+◌, ◌-◌, ◌*◌, ◌/◌, ◌%◌, ◌≤◌, ◌<◌, Bool, ◌||◌, not, List, [], ◌∷◌, ◌++◌, length, eqb, ℤ, pos, neg_ℤ}
use Rattle.std.proofs.Math.Option.{Option, none, some}
use Rattle.text.specs.Ascii.{ascii}
use Rattle.grammar.specs.Lang.{Lang, Word, Lit, ◌·◌, ◌∣◌, All, Many, Some, Star}

-- what a text says: the "name", the sides, the "hotspot" if there is one, the data bytes row by row
pub record Mask : Type 0 where
  pub name : List ℕ
  pub width : ℕ
  pub height : ℕ
  pub hot : Option (ℤ × ℤ)
  pub bytes : List ℕ

-- ---- spaces

-- a "blank": space or tab
abbrev pub blank : ℕ → Bool
blank b = eqb b 32 || eqb b 9

-- a byte of loose space: a blank or a newline
abbrev pub space : ℕ → Bool
space b = blank b || eqb b 10

-- any other byte
abbrev pub solid : ℕ → Bool
solid b = not (space b)

-- a "gap": one or more blanks
unfoldable pub Gap : Lang
Gap = Some blank

-- "loose space": any run, also none
unfoldable pub Loose : Lang
Loose = Many space

-- ---- integers

-- decimal digits
abbrev pub Digits : List ℕ → Type 0
Digits [] = Unit {0}
Digits (x ∷ w) = ((48 ≤ x) × (x ≤ 57)) × Digits w

-- the value of digits that follow those of v
abbrev pub value : ℕ → List ℕ → ℕ
value v [] = v
value v (x ∷ w) = value (v * 10 + (x - 48)) w

-- n in decimal: one digit, or several of which the first is not 0
unfoldable pub Decimal : ℕ → Lang
Decimal n [] = ⊥
Decimal n (x ∷ []) = Digits (x ∷ []) × (value 0 (x ∷ []) ≡ n)
Decimal n (x ∷ y ∷ w) = (x ≡ 48 → ⊥) × Digits (x ∷ y ∷ w) × (value 0 (x ∷ y ∷ w) ≡ n)

-- a "side": 1 to 4,294,967,295
unfoldable pub Side : ℕ → Lang
Side n w = Decimal n w × (0 < n) × (n < 4294967296)

-- a coordinate of the "hotspot": up to 2,147,483,647, or `-` and up to 2,147,483,648
unfoldable pub Coordinate : ℤ → Lang
Coordinate z w = (n : ℕ) × ((Decimal n w × (z ≡ pos n) × (n < 2147483648)) ⊎ ((Lit "-" · Decimal n) w × (z ≡ neg_ℤ (pos n)) × (n ≤ 2147483648)))

-- ---- the header

-- a "leading line": up to its newline, and its first byte is not `#`
unfoldable pub Skipped : Lang
Skipped w = (Many (λ b. not (eqb b 10)) · Lit "\n") w × ((v : List ℕ) → w ≡ ascii "#" ++ v → ⊥)

-- a "define line": `#define`, gap, symbol, gap, integer, blanks or none, newline
unfoldable pub Define : Lang → Lang → Lang
Define symbol integer = Lit "#define" · Gap · symbol · Gap · integer · Many blank · Lit "\n"

-- the "width symbol": the name, of solid bytes, and `_width`; at most so many bytes
unfoldable pub Symbol : ℕ → List ℕ → Lang
Symbol limit name w = (w ≡ name ++ ascii "_width") × All solid name × (length w ≤ limit)

-- no line, or the lines for `_x_hot` and `_y_hot`
unfoldable pub Hotspot : List ℕ → Option (ℤ × ℤ) → Lang
Hotspot name none = Word []
Hotspot name (some (x, y)) = Define (Word (name ++ ascii "_x_hot")) (Coordinate x) · Define (Word (name ++ ascii "_y_hot")) (Coordinate y)

-- the "array line", up to its brace
unfoldable pub Array : List ℕ → Lang
Array name =
    Lit "static" · Gap · (Lit "char" ∣ Lit "unsigned" · Gap · Lit "char")
    · Gap · Word (name ++ ascii "_bits[]") · Gap · Lit "=" · Gap · Lit "{"

-- the "header", with a limit on the width symbol
unfoldable pub Header : ℕ → Mask → Lang
Header limit m =
    Star Skipped · Define (Symbol limit m.name) (Side m.width) · Define (Word (m.name ++ ascii "_height")) (Side m.height) · Hotspot m.name m.hot · Array m.name

-- ---- data and trailer

-- the hex digit of d, of either case: 48 is `0`, 55 + 10 is `A`, 87 + 10 is `a`
unfoldable pub Hex : ℕ → Lang
Hex d w = (c : ℕ) × (w ≡ c ∷ []) × (((d < 10) × (c ≡ 48 + d)) ⊎ ((10 ≤ d) × (d < 16) × ((c ≡ 55 + d) ⊎ (c ≡ 87 + d))))

-- a "data byte": `0`, `x` or `X`, two hex digits
unfoldable pub Byte : ℕ → Lang
Byte b = Lit "0" · (Lit "x" ∣ Lit "X") · Hex (b / 16) · Hex (b % 16)

-- the data bytes after the first, a comma before each
unfoldable pub Further : List ℕ → Lang
Further [] = Word []
Further (b ∷ l) = (Loose · Lit "," · Loose · Byte b) · Further l

-- all data bytes
unfoldable pub Data : List ℕ → Lang
Data [] = Word []
Data (b ∷ l) = (Loose · Byte b) · Further l

-- the "trailer" up to `;`: one comma at most, the brace, the semicolon
unfoldable pub Closing : Lang
Closing = Loose · (Lit "," · Loose · Lit "}" ∣ Lit "}") · Loose · Lit ";"

-- ---- the whole

-- a text that writes the mask m; a row has ceil(width / 8) bytes
unfoldable pub Format : ℕ → Mask → Lang
Format limit m w = (Header limit m · (Data m.bytes · Closing) · Loose) w × (length m.bytes ≡ (m.width + 7) / 8 * m.height)
