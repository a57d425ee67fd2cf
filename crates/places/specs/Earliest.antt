-- What the claim on the earliest place says of a refusal, as a record. The claim stands in proofs/Earliest.
use Rattle.std.specs.Prelude.{◌≡◌, ◌⊎◌, ℕ, ◌*◌, ◌≤◌, ◌<◌, List, ◌++◌, length, ℤ}
use Rattle.text.specs.declared.TextLocation.{TextLocation}
use Rattle.text.specs.Ascii.{ascii}
use Rattle.grammar.specs.Lang.{Word, Lit, ◌·◌}
use Rattle.grammar.specs.Grammar.{Mask, Side, Coordinate, Array, Header, Data, Closing, Format}
use Rattle.claims.specs.Terms.{Begun, Opening, W, rows}
use Rattle.refusals.specs.Terms.{Front, Sides, Third, Fourth, No}
use Rattle.places.specs.Savable.{Savable, SavableLine, SavableDefine, BeforeWidth, Width, GoodSymbol, Stuck, Read}

-- A text that is refused with number c at p: what stands in it, and what can still stand there. A part a number.
pub record Earliest (text name pixels : List ℕ) (c : ℕ) (p : TextLocation) : Type 0 where
  -- 1: the symbol is good, and leading lines and a width line with any token can stand there; or it is, in a buffer too
  -- small for any, and what precedes it can; or it is the symbol that is refused
  pub n1 : c ≡ 1
      → ((6 ≤ length name) × GoodSymbol (length name) text
      × SavableLine text p (BeforeWidth (length name)) (Width (length name)))
      ⊎ (((length name < 6) × GoodSymbol (length name) text × Savable text p (Begun Opening))
      ⊎ Stuck (length name) text p)
  -- 2: a width line stands there, and a height line with any token can
  pub n2 : c ≡ 2
      → (m : Mask) × Begun (Front (length name) m.name (Side m.width)) text
      × SavableDefine text p (Front (length name) m.name (Side m.width)) (Word (m.name ++ ascii "_height"))
  -- 3: the sides do, and a line for `_x_hot` can
  pub n3 : c ≡ 3
      → (m : Mask) × Begun (Sides (length name) m) text
      × SavableDefine text p (Sides (length name) m) (Word (m.name ++ ascii "_x_hot"))
  -- 4: that line does, and one for `_y_hot` can
  pub n4 : c ≡ 4
      → (m : Mask) × (x : ℤ) × Begun (Third (length name) m (Coordinate x)) text
      × SavableDefine text p (Third (length name) m (Coordinate x)) (Word (m.name ++ ascii "_y_hot"))
  -- 5: the sides do and no `#` after them, or the hotspot's lines do; and an array line can
  pub n5 : c ≡ 5
      → ((m : Mask) × Begun (Sides (length name) m) text × No (Sides (length name) m · Lit "#") text
      × Savable text p (Begun (Sides (length name) m · Array m.name)))
      ⊎ ((m : Mask) × (x : ℤ) × (y : ℤ) × Begun (Fourth (length name) m x (Coordinate y)) text
      × Savable text p (Begun (Fourth (length name) m x (Coordinate y) · Array m.name)))
  -- 6: the header does, and all the data bytes that are read can
  pub n6 : c ≡ 6
      → (m : Mask) × (k : ℕ) × Read m pixels k × Begun (Header (length name) m) text
      × Savable text p (λ t. (l : List ℕ) × (length l ≡ k) × Begun (Header (length name) m · Data l) t)
  -- 7: the header and all data bytes do, and the closing can
  pub n7 : c ≡ 7
      → (m : Mask) × (m.height ≤ rows m pixels) × (length m.bytes ≡ W m * m.height)
      × Begun (Header (length name) m · Data m.bytes) text
      × Savable text p (Begun (Header (length name) m · Data m.bytes · Closing))
  -- 8: the closing does, and the text can be one of the format
  pub n8 : c ≡ 8
      → (m : Mask) × (m.height ≤ rows m pixels) × (length m.bytes ≡ W m * m.height)
      × Begun (Header (length name) m · Data m.bytes · Closing) text × Savable text p (Format (length name) m)
