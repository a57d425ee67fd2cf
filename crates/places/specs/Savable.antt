-- The words of the claim on the earliest place, beside the grammar's and those of other claims. No reader is in them.
use Rattle.std.specs.Prelude.{◌≡◌, ◌↔◌, ◌⊎◌, ℕ, suc, ◌+◌, ◌*◌, ◌≤◌, ◌<◌, true, List, [], ◌∷◌, ◌++◌, length, take}
use Rattle.text.specs.declared.TextLocation.{TextLocation}
use Rattle.text.specs.Ascii.{ascii}
use Rattle.text.specs.Place.{byte_of}
use Rattle.grammar.specs.Lang.{Lang, ◌·◌, All, Star}
use Rattle.grammar.specs.Grammar.{Mask, blank, solid, Skipped, Define, Symbol}
use Rattle.claims.specs.Terms.{Begun, Opening, W, rows}
use Rattle.refusals.specs.Terms.{Token, Front, NotNext}
use Rattle.places.specs.Terms.{Named}

-- these bytes have a continuation of this kind; they have none
abbrev pub Can : Lang → List ℕ → Type 0
Can L u = (v : List ℕ) × L (u ++ v)

abbrev pub Lost : Lang → List ℕ → Type 0
Lost L u = (v : List ℕ) → L (u ++ v) → ⊥

-- a text that is refused at p: how many of its first bytes begin a text of the kind L
pub data Savable (text : List ℕ) (p : TextLocation) (L : Lang) : Type 0 where
  -- the last byte taken is the wrong one: those before it do, with it they do not
  taken : (n : ℕ) → suc n ≡ byte_of p → Can L (take n text) → Lost L (take (byte_of p) text) → Savable text p L
  -- the text ends at p: all of it does
  ended : byte_of p ≡ length text → Can L text → Savable text p L

-- ---- define lines

-- a token too long, after a word of K: eleven solid bytes, up to byte n, and another follows
abbrev pub TooLong : Lang → List ℕ → ℕ → Type 0
TooLong K t n =
    (u : List ℕ) × (w : List ℕ) × (b : ℕ) × (v : List ℕ)
    × (t ≡ u ++ (w ++ (b ∷ v))) × K u × (length (u ++ w) ≡ n) × (length w ≡ 11) × All solid (w ++ (b ∷ []))

-- the same of a text with such a line, whose token stands after a word of K
pub data SavableLine (text : List ℕ) (p : TextLocation) (K L : Lang) : Type 0 where
  -- the token is not too long
  short : ((n : ℕ) → TooLong K text n → ⊥) → Savable text p L → SavableLine text p K L
  -- it is, and p is before the byte too many: the bytes up to p begin a text of the kind L, with that one they do not
  long : TooLong K text (byte_of p) → Can L (take (byte_of p) text) → Lost L (take (suc (byte_of p)) text)
      → SavableLine text p K L

-- a define line with this symbol and any token, after a word of K
abbrev pub SavableDefine : List ℕ → TextLocation → Lang → Lang → Type 0
SavableDefine text p K symbol = SavableLine text p (K · Named symbol) (Begun (K · Define symbol Token))

-- ---- the width line

-- a text that begins with leading lines and a width line with any token
abbrev pub Width : ℕ → Lang
Width limit t = (s : List ℕ) × Begun (Front limit s Token) t

-- and what precedes its token
abbrev pub BeforeWidth : ℕ → Lang
BeforeWidth limit u = (s : List ℕ) × (Star Skipped · Named (Symbol limit s)) u

-- a symbol that is refused, at byte n
pub record BadSymbol (limit : ℕ) (text : List ℕ) (n : ℕ) : Type 0 where
  -- what precedes the symbol, its bytes up to there, what follows
  pub fore : List ℕ
  pub symbol : List ℕ
  pub after : List ℕ
  pub stands : text ≡ fore ++ (symbol ++ after)
  pub opening : Opening fore
  pub begins : NotNext blank (symbol ++ after)
  pub solids : All solid symbol
  pub place : length (fore ++ symbol) ≡ n
  -- it ends there without `_width`; or it has as many bytes as the buffer, and another follows
  pub refusal : (NotNext solid after × (length symbol ≤ limit) × ((s : List ℕ) → symbol ≡ s ++ ascii "_width" → ⊥))
      ⊎ ((length symbol ≡ limit) × ((b : ℕ) × (v : List ℕ) × (after ≡ b ∷ v) × (solid b ≡ true)))

-- none is
abbrev pub GoodSymbol : ℕ → List ℕ → Type 0
GoodSymbol limit text = (n : ℕ) → BadSymbol limit text n → ⊥

-- the symbol is refused at p, which may be too late
pub record Stuck (limit : ℕ) (text : List ℕ) (p : TextLocation) : Type 0 where
  pub bad : BadSymbol limit text (byte_of p)
  -- the bytes before the symbol can be saved, if there is room for `_width`
  pub saved : 6 ≤ limit → Can (Width limit) bad.fore
  -- those up to p exactly if some z makes a width symbol of it
  pub exactly : Can (Width limit) (take (byte_of p) text)
      ↔ ((z : List ℕ) × (s : List ℕ) × Symbol limit s (bad.symbol ++ z))
  -- and with the next byte, if there is one, they cannot
  pub lost : byte_of p < length text → Lost (Width limit) (take (suc (byte_of p)) text)

-- ---- the data bytes

-- the data bytes that are read of a sound text: the picture's; with too few rows in the buffer theirs and one more
abbrev pub Read : Mask → List ℕ → ℕ → Type 0
Read m pixels k =
    ((m.height ≤ rows m pixels) × (k ≡ W m * m.height))
    ⊎ ((rows m pixels < m.height) × (k ≡ W m * rows m pixels + 1))
