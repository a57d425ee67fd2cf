-- The words that the claims are stated in, beside the grammar's and the reading's. No reader is in them.
use Rattle.std.specs.Prelude.{◌≡◌, ◌↔◌, ◌⊎◌, ℕ, suc, ◌+◌, ◌*◌, ◌/◌, ◌%◌, ◌^◌, ◌≤◌, ◌<◌, List, ◌++◌, length, take, drop, ℤ}
use Prim.Native.String.{String}
use Rattle.std.proofs.Math.Option.{Option, none, some}
use Rattle.std.proofs.Math.ListN.{get_elem?}
use Rattle.text.specs.declared.TextLocation.{TextLocation}
use Rattle.text.specs.Ascii.{ascii}
use Rattle.text.specs.Outcome.{Outcome, accepted, refused, unplaced}
use Rattle.header.specs.Header.{Head}
use Rattle.grammar.specs.Lang.{Lang, Lit, ◌·◌, Star}
use Rattle.grammar.specs.Grammar.{Mask, Gap, Decimal, Coordinate, Hotspot, Skipped, Header, Byte, Data, Format}

-- a mask without its data bytes
abbrev pub head_of : Mask → Head
head_of m = record { name = m.name; width = m.width; height = m.height; hot = m.hot }

-- a mask with other data bytes
abbrev pub having : Mask → List ℕ → Mask
having m l = record { name = m.name; width = m.width; height = m.height; hot = m.hot; bytes = l }

-- the bytes of a row, and the whole rows of a buffer
abbrev pub W : Mask → ℕ
W m = (m.width + 7) / 8

abbrev pub rows : Mask → List ℕ → ℕ
rows m pixels = length pixels / m.width

-- those are just the picture's
abbrev pub Fitting : Mask → List ℕ → Type 0
Fitting m pixels = rows m pixels ≡ m.height

-- bit i of a byte, 0 the least
abbrev pub bit : ℕ → ℕ → ℕ
bit b i = b / 2 ^ i % 2

-- the cell rule: cell i of row y is 0 if bit i % 8 of byte y * W + i / 8 is set, else 255
abbrev pub Rule : Mask → ℕ → ℕ → Option ℕ → Type 0
Rule m y i v =
    (b : ℕ) × (get_elem? m.bytes (y * W m + i / 8) ≡ some b)
    × (((bit b (i % 8) ≡ 1) × (v ≡ some 0)) ⊎ ((bit b (i % 8) ≡ 0) × (v ≡ some 255)))

-- the last b of a text stands at s
abbrev pub Last : ℕ → List ℕ → ℕ → Type 0
Last b t s = (get_elem? t s ≡ some b) × ((j : ℕ) → s < j → get_elem? t j ≡ some b → ⊥)

-- a text begins with a word of L
abbrev pub Begun : Lang → List ℕ → Type 0
Begun L t = (u : List ℕ) × (v : List ℕ) × (t ≡ u ++ v) × L u

-- data byte k came whole in the first n bytes: a prefix of at most n bytes is a header and the first k + 1 data bytes
abbrev pub Came : ℕ → Mask → List ℕ → ℕ → ℕ → Type 0
Came limit m t n k = (u : List ℕ) × (v : List ℕ) × (t ≡ u ++ v) × (length u ≤ n) × (Header limit m · Data (take (suc k) m.bytes)) u

-- data byte k stands as a word z, `0x` or `0X` and two hex digits; and it came whole in the first n bytes exactly if z ends there or before
abbrev pub Stands : ℕ → Mask → List ℕ → ℕ → Type 0
Stands limit m t k =
    (u : List ℕ) × (z : List ℕ) × (v : List ℕ) × (b : ℕ) × (t ≡ u ++ (z ++ v)) × (get_elem? m.bytes k ≡ some b) × Byte b z × ((n : ℕ) → Came limit m t n k ↔ (length (u ++ z) ≤ n))

-- a buffer with too many rows: all of the text is sound
abbrev pub TooMany : ℕ → Mask → List ℕ → List ℕ → Type 0
TooMany limit m t pixels = (m.height < rows m pixels) × Format limit m t

-- a buffer with too few rows: their data bytes and the next one are there, and m has just these
abbrev pub TooFew : ℕ → Mask → List ℕ → List ℕ → Type 0
TooFew limit m t pixels = (rows m pixels < m.height) × (length m.bytes ≡ W m * rows m pixels + 1) × Begun (Header limit m · Data m.bytes) t

abbrev pub Mismatched : ℕ → List ℕ → List ℕ → Type 0
Mismatched limit t pixels = (m : Mask) × (TooMany limit m t pixels ⊎ TooFew limit m t pixels)

-- the header's numbers without a place: a side that is zero; and four for each line's integer
abbrev pub HeaderNumber : ℕ → Type 0
HeaderNumber c =
    ((21 ≤ c) × (c ≤ 22))
    ⊎ (((111 ≤ c) × (c ≤ 114)) ⊎ (((121 ≤ c) × (c ≤ 124)) ⊎ (((131 ≤ c) × (c ≤ 134)) ⊎ ((141 ≤ c) × (c ≤ 144)))))

-- an answer that refuses the header: 1 to 5 with a place, those without
abbrev pub HeaderRefusal : {A : Type 0} → Outcome A → Type 0
HeaderRefusal (accepted h) = ⊥
HeaderRefusal (refused c e) = (1 ≤ c) × (c ≤ 5)
HeaderRefusal (unplaced c) = HeaderNumber c

-- the width's symbol, and what precedes it in a text
abbrev pub symbol_of : Mask → List ℕ
symbol_of m = m.name ++ ascii "_width"

abbrev pub Opening : Lang
Opening = Star Skipped · Lit "#define" · Gap

-- a buffer that begins with w and then is as lent
abbrev pub over : List ℕ → List ℕ → List ℕ
over w lent = w ++ drop (length w) lent

-- start and column of a place make up its byte
abbrev pub Aligned : TextLocation → Type 0
Aligned p = p.start.0 + p.column.0 ≡ p.byte.0

-- ---- what the program prints

-- a quoted word and a number
abbrev pub Field : String → ℕ → Lang
Field s n = Lit s · Decimal n

-- a coordinate as the grammar writes it, but not 0 with a sign
abbrev pub Signed : ℤ → Lang
Signed z w = Coordinate z w × (w ≡ ascii "-0" → ⊥)

-- a hotspot: two numbers, x first; or `none` where its lines are absent
abbrev pub HotWords : Option (ℤ × ℤ) → Lang
HotWords none = Lit "none"
HotWords (some (x, y)) = Signed x · Lit " " · Signed y

-- the lines of an answer, with the ink where it is accepted
abbrev pub Lines : Outcome Head → ℕ → Lang
Lines (accepted h) ink = (Field "width " h.width · Field "\nheight " h.height) · (Lit "\nhotspot " · HotWords h.hot) · (Field "\nink " ink · Lit "\n")
Lines (refused c p) ink = Field "refused " c · (Field " byte=" p.byte.0 · Field ",line=" p.line.0 · Field ":col=" p.column.0 · Field ",start=" p.start.0) · Lit "\n"
Lines (unplaced c) ink = Field "refused " c · Lit "\n"

-- a hotspot that a header can have, an absent one among them
abbrev pub Possible : Option (ℤ × ℤ) → Type 0
Possible o = (name : List ℕ) × (w : List ℕ) × Hotspot name o w

-- two masks of which the same is told, with their ink
pub record Same (h g : Head) (j k : ℕ) : Type 0 where
  pub width : h.width ≡ g.width
  pub height : h.height ≡ g.height
  pub hot : h.hot ≡ g.hot
  pub ink : j ≡ k
