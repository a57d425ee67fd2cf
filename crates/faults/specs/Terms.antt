-- The words that the claims on an integer's token are stated in: what is wrong with it, and what each answer says. No reader is in them.
use Rattle.std.specs.Prelude.{◌≡◌, ◌⊎◌, ℕ, ◌≤◌, ◌<◌, List, [], ◌∷◌, ◌++◌, ℤ, Result, Ok, Err}
use Rattle.integer.specs.declared.Fault.{Fault}
use Rattle.integer.specs.declared.Fault.TheVariants.{Empty, LeadingZero, NotDigit, OutOfRange}
use Rattle.grammar.specs.Lang.{Lang}
use Rattle.grammar.specs.Grammar.{Digits, value, Decimal, Coordinate}

-- ---- what is wrong with a side's token, in the order of testing

-- nothing is there
abbrev pub Nothing : Lang
Nothing w = w ≡ []

-- a zero is first there, with any byte behind it
abbrev pub ZeroLed : Lang
ZeroLed w = (b : ℕ) × (v : List ℕ) × (w ≡ 48 ∷ b ∷ v)

-- neither
abbrev pub Plain : Lang
Plain w = (Nothing w → ⊥) × (ZeroLed w → ⊥)

-- then: some byte is no digit
abbrev pub Marred : Lang
Marred w = Plain w × ((u : List ℕ) × (b : ℕ) × (v : List ℕ) × (w ≡ u ++ (b ∷ v)) × ((48 ≤ b) × (b ≤ 57) → ⊥))

-- then: digits whose value is above n
abbrev pub Above : ℕ → Lang
Above n w = Plain w × Digits w × (n < value 0 w)

-- ---- with a coordinate's token

-- v is what follows the leading `-` of w, or all of w where none leads
abbrev pub Behind : List ℕ → List ℕ → Type 0
Behind w v = (w ≡ 45 ∷ v) ⊎ ((w ≡ v) × ((u : List ℕ) → w ≡ 45 ∷ u → ⊥))

-- with what follows the sign the same is wrong
abbrev pub PastSign : Lang → Lang
PastSign F w = (v : List ℕ) × Behind w v × F v

-- its value is above 2,147,483,648 behind a `-`, or above 2,147,483,647
abbrev pub Beyond : Lang
Beyond w = ((v : List ℕ) × (w ≡ 45 ∷ v) × Above 2147483648 v) ⊎ Above 2147483647 w

-- ---- what an answer says of its token

abbrev pub Says : Result ℕ Fault → Lang
Says (Ok n) w = Decimal n w × (n < 4294967296)
Says (Err Empty) w = Nothing w
Says (Err LeadingZero) w = ZeroLed w
Says (Err NotDigit) w = Marred w
Says (Err OutOfRange) w = Above 4294967295 w

abbrev pub SaysSigned : Result ℤ Fault → Lang
SaysSigned (Ok z) w = Coordinate z w
SaysSigned (Err Empty) w = PastSign Nothing w
SaysSigned (Err LeadingZero) w = PastSign ZeroLed w
SaysSigned (Err NotDigit) w = PastSign Marred w
SaysSigned (Err OutOfRange) w = Beyond w

-- ---- a token that writes no side, not even 0; one that writes no coordinate

abbrev pub NoSide : Lang
NoSide w = (n : ℕ) → Decimal n w → n < 4294967296 → ⊥

abbrev pub NoCoordinate : Lang
NoCoordinate w = (z : ℤ) → Coordinate z w → ⊥
