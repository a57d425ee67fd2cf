-- What reading off a text reader answers, and where the reader then stands.
use Rattle.std.specs.Prelude.{ℕ, ◌≡◌, List, Result as Answer, Ok, Err}
use Rattle.std.specs.Borrow.{Bor}
use Rattle.text.specs.declared.TextLocation.{TextLocation}
use Rattle.text.specs.declared.TextReader.{TextReader}
use Rattle.text.specs.Reader.{Result, ok, stop, bad, Reader}
use Rattle.lexical.specs.declared.XbmPart.{XbmPart}
use Rattle.lexical.specs.Lexical.{number}

-- what an error tells: a number with the place where the reader stands, or a number alone
pub data Telling : Type 0 where
  placed : ℕ → Telling
  alone : ℕ → Telling

-- its number
abbrev pub number_told : Telling → ℕ
number_told (placed c) = c
number_told (alone c) = c

abbrev pub refuse : {A : Type 0} → Telling → TextLocation → Result A
refuse (placed c) e = stop c e
refuse (alone c) e = bad c e

-- an answer as a result, and the place where the reader stands
abbrev pub told : {A E : Type 0} → (E → Telling) → Answer A E → TextLocation → Result A
told tells (Ok a) e = ok a e
told tells (Err x) e = refuse (tells x) e

-- the reader old read by p: new is the same text, and with its place the answer is what p gives
pub record Gives {A E : Type 0} (tells : E → Telling) (p : Reader A) (old new : TextReader) (r : Answer A E) : Type 0 where
  pub kept : new.text ≡ old.text
  pub answer : told tells r new.location ≡ p old.text.now old.location

-- a part's number is told with the place
abbrev pub broken : XbmPart → Telling
broken part = placed (number part)

abbrev pub Reads : {A : Type 0} → Reader A → TextReader → TextReader → Answer A XbmPart → Type 0
Reads p old new r = Gives broken p old new r

-- bytes lent by the text, as bytes
abbrev pub lent : Answer (Bor (List ℕ)) XbmPart → Answer (List ℕ) XbmPart
lent (Ok s) = Ok s.now
lent (Err x) = Err x
