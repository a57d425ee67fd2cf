-- The lexical rules: readers put together from the leaves.
use Rattle.std.specs.Prelude.{ℕ, List, [], ◌∷◌, Bool, true, false, eqb}
use Rattle.std.proofs.Math.Option.{Option, none, some}
use Rattle.text.specs.Place.{pick}
use Rattle.text.specs.Reader.{Reader, ◌>>◌}
use Rattle.text.specs.Leaf.{give, one, run, Move, go_on, stay}
use Rattle.lexical.specs.declared.XbmPart.{XbmPart}
use Rattle.lexical.specs.declared.XbmPart.TheVariants.{Width, Height, HotspotX, HotspotY, Array, Data, ArrayEnd, Trailing}

-- the number of a refusal, by document 01
abbrev pub number : XbmPart → ℕ
number Width = 1
number Height = 2
number HotspotX = 3
number HotspotY = 4
number Array = 5
number Data = 6
number ArrayEnd = 7
number Trailing = 8

-- a blank: space or tab
unfoldable pub is_blank : ℕ → Bool
is_blank b = pick (eqb b 32) true (eqb b 9)

-- loose space: space, tab or newline
unfoldable pub is_loose : ℕ → Bool
is_loose b = pick (is_blank b) true (eqb b 10)

abbrev pub when : Bool → Option (Unit {0})
when t = pick t (some tt) none

-- any byte
unfoldable pub any_byte : ℕ → Reader ℕ
any_byte c = one c (λ b. some b)

-- one byte of a class; the class of the byte x
unfoldable pub byte : ℕ → (ℕ → Bool) → Reader (Unit {0})
byte c class = one c (λ b. when (class b))

abbrev pub is : ℕ → ℕ → Bool
is x b = eqb b x

-- past the leading bytes of a class
abbrev pub while : (ℕ → Bool) → Unit {0} → ℕ → Move (Unit {0}) (Unit {0})
while class s b = pick (class b) (go_on tt) (stay tt)

unfoldable pub skip : (ℕ → Bool) → Reader (Unit {0})
skip class = run 0 (while class) (λ s. some tt) tt

-- precisely these bytes
unfoldable pub fixed : ℕ → List ℕ → Reader (Unit {0})
fixed c [] = give tt
fixed c (x ∷ w) = byte c (is x) >> fixed c w

-- a gap: one or more blanks
unfoldable pub gap : ℕ → Reader (Unit {0})
gap c = byte c is_blank >> skip is_blank

-- blanks or none, then a newline
unfoldable pub line_end : ℕ → Reader (Unit {0})
line_end c = skip is_blank >> byte c (is 10)

-- whether a define line starts with byte b; fresh: b starts a line
abbrev pub starts : Bool → ℕ → Bool
starts true b = eqb b 35
starts false b = false

abbrev pub lead : Bool → ℕ → Move Bool (Unit {0})
lead fresh b = pick (starts fresh b) (stay tt) (go_on (eqb b 10))

-- past whole lines, up to the first that begins with `#`
unfoldable pub leading : ℕ → Bool → Reader (Unit {0})
leading c fresh = run c lead (λ s. none) fresh
