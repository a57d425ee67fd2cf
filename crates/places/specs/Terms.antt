-- The words that the claims on places are stated in, beside the grammar's, the claims' and the refusals'.
-- No reader is in them.
use Rattle.std.specs.Prelude.{◌≡◌, ◌⊎◌, ℕ, zero, suc, ◌+◌, ◌-◌, ◌≤◌, ◌<◌, min, Bool, true, false, not, List, [], ◌∷◌, ◌++◌, length, take, eqb, ℤ}
use Rattle.text.specs.declared.TextLocation.{TextLocation}
use Rattle.text.specs.Ascii.{ascii}
use Rattle.text.specs.Place.{byte_of}
use Rattle.text.specs.Rest.{newlines}
use Rattle.text.specs.Outcome.{refused}
use Rattle.image.specs.Reading.{reading}
use Rattle.grammar.specs.Lang.{Lang, Word, Lit, ◌·◌, All, Star}
use Rattle.grammar.specs.Grammar.{Mask, solid, Side, Coordinate, Gap, Skipped, Symbol}
use Rattle.claims.specs.Terms.{Opening}
use Rattle.refusals.specs.Terms.{Front, Sides, Third}

-- ---- a place as counts

-- the bytes taken so far are whole lines and what is begun of the next
pub record Counted (taken : List ℕ) (p : TextLocation) : Type 0 where
  pub whole : List ℕ
  pub begun : List ℕ
  pub split : taken ≡ whole ++ begun
  pub lines : (whole ≡ []) ⊎ ((v : List ℕ) × (whole ≡ v ++ ascii "\n"))
  pub plain : All (λ b. not (eqb b 10)) begun
  -- byte: how many they are
  pub byte : p.byte.0 ≡ length taken
  -- line: one more than the newlines among them, and 2 ^ 64 - 1 stays
  pub line : p.line.0 ≡ min (1 + newlines taken) 18446744073709551615
  -- column: how many are begun
  pub column : p.column.0 ≡ length begun
  -- start: how many are whole lines
  pub start : p.start.0 ≡ length whole

-- the line start of one byte more in front, a newline or not, by that of the bytes after it: one further on, or after the newline
abbrev pub sooner : Bool → ℕ → ℕ
sooner d (suc n) = suc (suc n)
sooner true zero = 1
sooner false zero = 0

-- where the line starts that some bytes end in: how many there are up to the last newline, and with it; 0 without one
abbrev pub line_start : List ℕ → ℕ
line_start [] = 0
line_start (b ∷ w) = sooner (eqb b 10) (line_start w)

-- q is the place after p and the bytes w, by what p tells
pub record Onward (p : TextLocation) (w : List ℕ) (q : TextLocation) : Type 0 where
  pub byte : q.byte.0 ≡ p.byte.0 + length w
  pub line : p.line.0 ≤ 18446744073709551615 → q.line.0 ≡ min (p.line.0 + newlines w) 18446744073709551615
  -- on the same line; or on one that starts behind the last newline of w
  pub same : line_start w ≡ 0 → (q.column.0 ≡ p.column.0 + length w) × (q.start.0 ≡ p.start.0)
  pub next : 0 < line_start w → (q.column.0 ≡ length w - line_start w) × (q.start.0 ≡ p.byte.0 + line_start w)

-- ---- the three checks that only look ahead

-- the text is u, then w, then the byte b and more; p stands after w, and b is the next byte
abbrev pub Ahead : List ℕ → TextLocation → List ℕ → List ℕ → ℕ → Type 0
Ahead text p u w b = (v : List ℕ) × (text ≡ u ++ (w ++ (b ∷ v))) × (byte_of p ≡ length (u ++ w))

-- a define line up to its integer token
abbrev pub Named : Lang → Lang
Named symbol = Lit "#define" · Gap · symbol · Gap

-- a text up to the integer token of line c: the width line, the height line, those for `_x_hot` and `_y_hot`
pub data Lead (limit : ℕ) : ℕ → List ℕ → Type 0 where
  width : (name : List ℕ) {u : List ℕ} → (Star Skipped · Named (Symbol limit name)) u → Lead limit 1 u
  height : (m : Mask) {u : List ℕ}
      → (Front limit m.name (Side m.width) · Named (Word (m.name ++ ascii "_height"))) u → Lead limit 2 u
  x-hot : (m : Mask) {u : List ℕ} → (Sides limit m · Named (Word (m.name ++ ascii "_x_hot"))) u → Lead limit 3 u
  y-hot : (m : Mask) (x : ℤ) {u : List ℕ}
      → (Third limit m (Coordinate x) · Named (Word (m.name ++ ascii "_y_hot"))) u → Lead limit 4 u

-- the one that told number c at p
pub data Looked (limit : ℕ) (text : List ℕ) (p : TextLocation) : ℕ → Type 0 where
  -- a symbol too long: as many solid bytes as it may have, and the next one is solid too
  long-symbol : (u w : List ℕ) (b : ℕ) → Ahead text p u w b → Opening u → All solid w → length w ≡ limit
      → solid b ≡ true → Looked limit text p 1
  -- a symbol without `_width`: the next byte, a blank or a newline, ends it
  -- (a newline where the symbol is empty, since its gap has all blanks)
  no-width : (u w : List ℕ) (b : ℕ) → Ahead text p u w b → Opening u → All solid w → length w ≤ limit
      → ((name : List ℕ) → w ≡ name ++ ascii "_width" → ⊥)
      → solid b ≡ false → (w ≡ [] → b ≡ 10) → Looked limit text p 1
  -- a token too long: eleven solid bytes, and the next one is solid too
  long-token : (c : ℕ) (u w : List ℕ) (b : ℕ) → Ahead text p u w b → Lead limit c u → All solid w → length w ≡ 11
      → solid b ≡ true → Looked limit text p c

-- ---- how a refusal with number c and place p comes about

-- every text that begins with the first n bytes of this one is refused with c at p
abbrev pub Settled : List ℕ → List ℕ → List ℕ → ℕ → ℕ → TextLocation → Type 0
Settled text name pixels n c p = (v : List ℕ) → (reading (take n text ++ v) name pixels).answer ≡ refused c p

pub data How (text name pixels : List ℕ) (c : ℕ) (p : TextLocation) : Type 0 where
  -- the text ends there
  ended : byte_of p ≡ length text → How text name pixels c p
  -- the byte just before is the wrong one: the bytes up to it settle the refusal
  wrong : 0 < byte_of p → Settled text name pixels (byte_of p) c p → How text name pixels c p
  -- a check looked ahead, and the next byte is the one: the bytes up to that settle it
  looked : Looked (length name) text p c → Settled text name pixels (byte_of p + 1) c p → How text name pixels c p
