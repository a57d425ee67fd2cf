-- The words that the claims on the writer are stated in, beside the grammar's. Of the writer they name only `packed`, the
-- data bytes of a picture, and `written`, the text; both are what the claims are about.
use Rattle.std.specs.Prelude.{◌≡◌, ◌⊎◌, ℕ, ◌+◌, ◌*◌, ◌/◌, ◌%◌, ◌≤◌, ◌<◌, List, [], ◌∷◌, ◌++◌, length, take, drop, ℤ}
use Prim.Native.String.{String}
use Rattle.std.proofs.Math.Option.{Option, none, some}
use Rattle.std.proofs.Math.ListN.{get_elem?}
use Rattle.text.specs.Outcome.{accepted}
use Rattle.header.specs.Header.{Head}
use Rattle.image.specs.Reading.{Reading}
use Rattle.print.specs.Output.{Output, output}
use Rattle.data_text.specs.Packed.{packed}
use Rattle.writer.specs.Written.{written}
use Rattle.grammar.specs.Lang.{Lang, Word, Lit, ◌·◌}
use Rattle.grammar.specs.Grammar.{Mask, Decimal}
use Rattle.claims.specs.Terms.{W, bit, Signed}

-- ---- what is lent to the writer

-- the mask that a name, sides, a hotspot and cells make
abbrev pub mask_of : List ℕ → ℕ → ℕ → Option (ℤ × ℤ) → List ℕ → Mask
mask_of name w h hot cells = record { name = name; width = w; height = h; hot = hot; bytes = packed w h cells }

-- a name that cannot be written: above 250 bytes, or one of them is a space, a tab or a newline
abbrev pub BadName : List ℕ → Type 0
BadName name = (250 < length name) ⊎ ((i : ℕ) × (b : ℕ) × (get_elem? name i ≡ some b) × ((b ≡ 32) ⊎ ((b ≡ 9) ⊎ (b ≡ 10))))

-- a cell that is neither ink, 0, nor none, 255
abbrev pub BadCell : List ℕ → Type 0
BadCell cells = (c : ℕ) × (x : ℕ) × (get_elem? cells c ≡ some x) × (x ≡ 0 → ⊥) × (x ≡ 255 → ⊥)

-- what the writer takes
pub record Taken (name : List ℕ) (w h : ℕ) (cells : List ℕ) : Type 0 where
  pub name-good : BadName name → ⊥
  pub wide : 0 < w
  pub high : 0 < h
  pub size : length cells ≡ w * h
  pub cells-good : BadCell cells → ⊥

-- ---- what is read again

-- the same name, sides, hotspot and cells
pub record Back (name : List ℕ) (w h : ℕ) (hot : Option (ℤ × ℤ)) (cells : List ℕ) (later : Reading) : Type 0 where
  pub answer : later.answer ≡ accepted (record { name = name; width = w; height = h; hot = hot })
  pub called : later.name ≡ name
  pub pixels : later.pixels ≡ cells

-- the cells of a picture that was read
abbrev pub picture_of : Head → Reading → List ℕ
picture_of h later = take (h.width * h.height) later.pixels

-- the text of a header and the cells of its picture
abbrev pub text_of : Head → List ℕ → List ℕ
text_of h cells = written h.name h.width h.height h.hot cells

-- an output that begins with w and then is as lent, with the length of w
abbrev pub at_start : List ℕ → List ℕ → Output
at_start w out = output (w ++ drop (length w) out) (length w)

-- ---- document 02's layout

-- a hex digit in lower case: 48 is `0`, 87 + 10 is `a`
unfoldable pub Lower : ℕ → Lang
Lower d w = ((d < 10) × (w ≡ (48 + d) ∷ [])) ⊎ ((10 ≤ d) × (d < 16) × (w ≡ (87 + d) ∷ []))

-- a data byte: `0x` and two digits
unfoldable pub Plain : ℕ → Lang
Plain b = Lit "0x" · Lower (b / 16) · Lower (b % 16)

-- the data bytes of one line, `, ` between them
unfoldable pub Row : List ℕ → Lang
Row [] = Word []
Row (b ∷ []) = Plain b
Row (b ∷ c ∷ l) = Plain b · Lit ", " · Row (c ∷ l)

-- lines of twelve bytes, the last one with those that are left; each led by three spaces, `,` and a newline where another follows
pub data Rows : List ℕ → List ℕ → Type 0 where
  last : (l w : List ℕ) → 0 < length l → length l ≤ 12 → (Lit "   " · Row l) w → Rows l w
  more : (k l v w : List ℕ) → length k ≡ 12 → (Lit "   " · Row k · Lit ",\n") v → Rows l w → Rows (k ++ l) (v ++ w)

-- a define line with single spaces
unfoldable pub Single : List ℕ → String → Lang → Lang
Single name ending number = Lit "#define " · Word name · Lit ending · Lit " " · number · Lit "\n"

-- the lines of a hotspot, if there is one
unfoldable pub Spot : List ℕ → Option (ℤ × ℤ) → Lang
Spot name none = Word []
Spot name (some (x, y)) = Single name "_x_hot" (Signed x) · Single name "_y_hot" (Signed y)

-- the whole
unfoldable pub Layout : Mask → Lang
Layout m =
    Single m.name "_width" (Decimal m.width) · Single m.name "_height" (Decimal m.height) · Spot m.name m.hot
    · (Lit "static unsigned char " · Word m.name · Lit "_bits[] = {\n") · Rows m.bytes · Lit "};\n"

-- padding bits are 0: in each row those past its last cell
abbrev pub Padded : Mask → Type 0
Padded m = (y i b : ℕ) → y < m.height → m.width ≤ i → i < W m * 8 → get_elem? m.bytes (y * W m + i / 8) ≡ some b → bit b (i % 8) ≡ 0
