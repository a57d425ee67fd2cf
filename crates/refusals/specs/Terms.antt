-- The words that the claims on refusals are stated in, beside the grammar's and those of the other claims. No reader is in them.
use Rattle.std.specs.Prelude.{◌≡◌, ◌⊎◌, ℕ, zero, suc, ◌+◌, ◌-◌, ◌*◌, ◌/◌, ◌≤◌, ◌<◌, Bool, false, List, [], ◌∷◌, ◌++◌, length, drop, ℤ}
use Rattle.std.proofs.Math.Option.{none, some}
use Rattle.text.specs.declared.TextLocation.{TextLocation}
use Rattle.text.specs.Ascii.{ascii}
use Rattle.text.specs.Outcome.{Outcome, accepted, refused, unplaced}
use Rattle.header.specs.Header.{Head}
use Rattle.decoder.specs.declared.XbmStreamDecoder.{XbmStreamDecoder}
use Rattle.grammar.specs.Lang.{Lang, Word, Lit, ◌·◌, All, Star}
use Rattle.grammar.specs.Grammar.{Mask, blank, solid, Loose, Decimal, Side, Coordinate, Skipped, Define, Symbol, Header, Byte, Data, Closing, Format}
use Rattle.claims.specs.Terms.{Begun, W, rows, HeaderNumber, Opening}

-- ---- answers

-- a refusal with this number, at some place
abbrev pub Placed : {A : Type 0} → Outcome A → ℕ → Type 0
Placed a c = (p : TextLocation) × (a ≡ refused c p)

-- the numbers that a reading may tell: 1 to 8 with a place; the header's others, and 31, without one
abbrev pub InTable : Outcome Head → Type 0
InTable (accepted h) = Unit {0}
InTable (refused c p) = (1 ≤ c) × (c ≤ 8)
InTable (unplaced c) = HeaderNumber c ⊎ (c ≡ 31)

-- ---- the parts of a header

-- any integer token, whatever it says
abbrev pub Token : Lang
Token w = All solid w × (length w ≤ 11)

-- the header up to the end of its first, second, third and fourth define line, with integer i in that line; Sides is the second with its side
abbrev pub Front : ℕ → List ℕ → Lang → Lang
Front limit name i = Star Skipped · Define (Symbol limit name) i

abbrev pub Second : ℕ → Mask → Lang → Lang
Second limit m i = Front limit m.name (Side m.width) · Define (Word (m.name ++ ascii "_height")) i

abbrev pub Sides : ℕ → Mask → Lang
Sides limit m = Second limit m (Side m.height)

abbrev pub Third : ℕ → Mask → Lang → Lang
Third limit m i = Sides limit m · Define (Word (m.name ++ ascii "_x_hot")) i

abbrev pub Fourth : ℕ → Mask → ℤ → Lang → Lang
Fourth limit m x i = Third limit m (Coordinate x) · Define (Word (m.name ++ ascii "_y_hot")) i

-- a text does not begin so
abbrev pub No : Lang → List ℕ → Type 0
No L t = Begun L t → ⊥

-- after k data bytes another is read: the picture has more, and of the buffer's rows not more than all are filled
abbrev pub Wanted : Mask → List ℕ → ℕ → Type 0
Wanted m pixels k = (k < W m * m.height) × (k ≤ W m * rows m pixels)

-- ---- the conditions of document 01's table, of a text under a limit on the symbol, in the order of checking

-- width line, whatever its token says: there is none; its token has the fault F, so that it is no integer in range; it is zero
abbrev pub NoWidthLine : ℕ → List ℕ → Type 0
NoWidthLine limit t = (s : List ℕ) → No (Front limit s Token) t

abbrev pub BadWidth : ℕ → Lang → List ℕ → Type 0
BadWidth limit F t = (s : List ℕ) × (w : List ℕ) × Begun (Front limit s (Word w)) t × Token w × F w

abbrev pub ZeroWidth : ℕ → List ℕ → Type 0
ZeroWidth limit t = (s : List ℕ) × Begun (Front limit s (Decimal 0)) t

-- after a width line with its side: no height line; its token; zero
abbrev pub NoHeightLine : ℕ → List ℕ → Type 0
NoHeightLine limit t = (m : Mask) × Begun (Front limit m.name (Side m.width)) t × No (Second limit m Token) t

abbrev pub BadHeight : ℕ → Lang → List ℕ → Type 0
BadHeight limit F t = (m : Mask) × (w : List ℕ) × Begun (Second limit m (Word w)) t × Token w × F w

abbrev pub ZeroHeight : ℕ → List ℕ → Type 0
ZeroHeight limit t = (m : Mask) × Begun (Second limit m (Decimal 0)) t

-- after both sides a `#`, and no line for `_x_hot`; its token
abbrev pub NoXLine : ℕ → List ℕ → Type 0
NoXLine limit t = (m : Mask) × Begun (Sides limit m · Lit "#") t × No (Third limit m Token) t

abbrev pub BadX : ℕ → Lang → List ℕ → Type 0
BadX limit F t = (m : Mask) × (w : List ℕ) × Begun (Third limit m (Word w)) t × Token w × F w

-- after that line none for `_y_hot`; its token
abbrev pub NoYLine : ℕ → List ℕ → Type 0
NoYLine limit t = (m : Mask) × (x : ℤ) × Begun (Third limit m (Coordinate x)) t × No (Fourth limit m x Token) t

abbrev pub BadY : ℕ → Lang → List ℕ → Type 0
BadY limit F t = (m : Mask) × (x : ℤ) × (w : List ℕ) × Begun (Fourth limit m x (Word w)) t × Token w × F w

-- after both sides and no `#`, or after the hotspot, no array line
abbrev pub NoArrayLine : ℕ → List ℕ → Type 0
NoArrayLine limit t =
    (m : Mask) × No (Header limit m) t
    × (((m.hot ≡ none) × Begun (Sides limit m) t × No (Sides limit m · Lit "#") t)
    ⊎ ((x : ℤ) × (y : ℤ) × (m.hot ≡ some (x, y)) × Begun (Fourth limit m x (Coordinate y)) t))

-- after the header and some data bytes another is wanted, and none stands there
abbrev pub NoDataByte : ℕ → List ℕ → List ℕ → Type 0
NoDataByte limit t pixels =
    (m : Mask) × Wanted m pixels (length m.bytes) × Begun (Header limit m · Data m.bytes) t
    × ((b : ℕ) → No (Header limit m · Data (m.bytes ++ (b ∷ []))) t)

-- all data bytes, rows enough for them, and no closing; or a closing, and more behind it than loose space
abbrev pub NoClosing : ℕ → List ℕ → List ℕ → Type 0
NoClosing limit t pixels =
    (m : Mask) × (m.height ≤ rows m pixels) × (length m.bytes ≡ W m * m.height)
    × Begun (Header limit m · Data m.bytes) t × No (Header limit m · Data m.bytes · Closing) t

abbrev pub MoreBehind : ℕ → List ℕ → List ℕ → Type 0
MoreBehind limit t pixels =
    (m : Mask) × (m.height ≤ rows m pixels) × (length m.bytes ≡ W m * m.height)
    × Begun (Header limit m · Data m.bytes · Closing) t × (Format limit m t → ⊥)

-- ---- decoders

-- a foreign decoder, a condition a line
pub data Foreign (t : List ℕ) (d : XbmStreamDecoder) : Type 0 where
  no-width : d.width ≡ 0 → Foreign t d
  no-height : d.height ≡ 0 → Foreign t d
  position : (d.width + 7) / 8 * d.height < d.current_position → Foreign t d
  byte : length t < d.location.byte.0 → Foreign t d
  column : d.location.byte.0 < d.location.column.0 → Foreign t d
  line : d.location.byte.0 + 1 < d.location.line.0 → Foreign t d
  start : (d.location.start.0 ≡ d.location.byte.0 - d.location.column.0 → ⊥) → Foreign t d

-- the data bytes of its picture
abbrev pub size_of : XbmStreamDecoder → ℕ
size_of d = (d.width + 7) / 8 * d.height

-- the text from its place on
abbrev pub ahead : List ℕ → XbmStreamDecoder → List ℕ
ahead t d = drop d.location.byte.0 t

-- the same with another position and place
abbrev pub moved : XbmStreamDecoder → ℕ → TextLocation → XbmStreamDecoder
moved d k p = record { width = d.width; height = d.height; current_position = k; location = p }

-- its position after a refused call: one more, if a data byte was left
abbrev pub Spent : XbmStreamDecoder → ℕ → Type 0
Spent d k = ((d.current_position < size_of d) × (k ≡ d.current_position + 1)) ⊎ ((size_of d ≤ d.current_position) × (k ≡ d.current_position))

-- the data byte b where k are spent: the first, or one with a comma before it
abbrev pub Item : ℕ → ℕ → Lang
Item zero b = Loose · Byte b
Item (suc k) b = Loose · Lit "," · Loose · Byte b

-- ---- the name buffer

-- a text does not begin with a byte of this class
abbrev pub NotNext : (ℕ → Bool) → List ℕ → Type 0
NotNext g [] = Unit {0}
NotNext g (b ∷ t) = g b ≡ false

-- the symbol bytes of a text for a buffer of so many bytes: none, where the text opens no symbol;
-- else the solid bytes after the opening's gap, to their end or to the buffer's
pub data Stores (limit : ℕ) (t : List ℕ) : List ℕ → Type 0 where
  unopened : ((u v : List ℕ) → t ≡ u ++ v → Opening u → ⊥) → Stores limit t []
  opened : (u w v : List ℕ) → t ≡ u ++ (w ++ v) → Opening u → NotNext blank (w ++ v) → All solid w
      → (NotNext solid v × (length w ≤ limit)) ⊎ (length w ≡ limit) → Stores limit t w
