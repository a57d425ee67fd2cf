-- What the header's code answers, as document 01's values; and what it leaves in the lent name buffer.
use Rattle.std.specs.Prelude.{ℕ, ◌≡◌, List, [], length, take, eqb, ℤ, Option as Spot, Some, None, Result as Answer, Ok, Err}
use Rattle.std.specs.Borrow.{Bor}
use Rattle.std.proofs.Math.Option.{Option}
use Rattle.text.specs.declared.TextLocation.{TextLocation}
use Rattle.text.specs.declared.TextReader.{TextReader}
use Rattle.text.specs.Place.{pick, start}
use Rattle.text.specs.Reader.{Result, ok, stop, bad, Reader, ◌>>=◌, ◌>>◌}
use Rattle.text.specs.Outcome.{Outcome, accepted, Ended, ending_at, shown, given}
use Rattle.text.specs.Ascii.{ascii}
use Rattle.text.specs.Leaf.{give, fork}
use Rattle.lexical.specs.declared.XbmPart.{XbmPart}
use Rattle.lexical.specs.Token.{overlay}
use Rattle.integer.specs.declared.Fault.{Fault}
use Rattle.integer.specs.Decimal.{parse_u32}
use Rattle.error.specs.Error.{told_error, Decodes}
use Rattle.error.specs.declared.XbmDecodeError.{XbmDecodeError}
use Rattle.error.specs.declared.XbmDecodeError.TheVariants.{DecodeInteger}
use Rattle.symbol.specs.Symbol.{stored_from, stored}
use Rattle.lines.specs.Lines.{value, side, define_line, array_line}
use Rattle.hotspot.specs.Hotspot.{spot}
use Rattle.header.specs.Header.{Head, header}
use Rattle.header.specs.declared.XbmHeaderData.{XbmHeaderData}
use Rattle.header.specs.declared.NamedAnswer.{NamedAnswer}

abbrev pub hot_of : Spot (ℤ × ℤ) → Option (ℤ × ℤ)
hot_of s = given s

abbrev pub head_of : List ℕ → XbmHeaderData → Head
head_of name d = record { name = name; width = d.width; height = d.height; hot = hot_of d.hotspot }

abbrev pub told_header : List ℕ → Answer (XbmHeaderData × TextLocation) (XbmDecodeError TextLocation) → Outcome (Ended Head)
told_header name (Ok r) = accepted (ending_at (head_of name r.0) r.1)
told_header name (Err e) = told_error e

-- the same of an answer that stands before its place
abbrev pub headed : List ℕ → Answer XbmHeaderData (XbmDecodeError (Unit {0})) → Answer Head (XbmDecodeError (Unit {0}))
headed name (Ok d) = Ok (head_of name d)
headed name (Err e) = Err e

-- the same of one that stands beside its name, a part of the text
abbrev pub headed_by : Answer (XbmHeaderData × Bor (List ℕ)) (XbmDecodeError (Unit {0})) → Answer Head (XbmDecodeError (Unit {0}))
headed_by (Ok r) = Ok (head_of r.1.now r.0)
headed_by (Err e) = Err e

-- that name, none of a refusal
abbrev pub name_by : Answer (XbmHeaderData × Bor (List ℕ)) (XbmDecodeError (Unit {0})) → List ℕ
name_by (Ok r) = r.1.now
name_by (Err e) = []

-- ---- the header's parts, as the code reads them

-- a side of a token: a fault of its part, a zero's own error, or the value
abbrev pub side_in : XbmPart → XbmDecodeError (Unit {0}) → Answer ℕ Fault → Answer ℕ (XbmDecodeError (Unit {0}))
side_in part zero (Ok n) = pick (eqb n 0) (Err zero) (Ok n)
side_in part zero (Err f) = Err (DecodeInteger part f)

abbrev pub side_of : XbmPart → XbmDecodeError (Unit {0}) → List ℕ → Answer ℕ (XbmDecodeError (Unit {0}))
side_of part zero w = side_in part zero (parse_u32 w)

-- what follows the height line, which is the hotspot; all that follows the width's symbol
unfoldable pub rest_of : List ℕ → Reader (Spot (ℤ × ℤ))
rest_of name = fork 5 35 (spot name >>= λ s. array_line 5 name >> give (Some s)) 115 (array_line 5 name >> give None)

unfoldable pub sides_of : List ℕ → Reader Head
sides_of name =
    value 1 give >>= λ d. side 110 21 d >>= λ w. define_line 2 name (ascii "_height") >>= λ d. side 120 22 d >>= λ h.
    rest_of name >>= λ s. give (record { name = name; width = w; height = h; hot = hot_of s })

-- the name handed back, and its length: none of a refused header
abbrev pub name_in : Result Head → List ℕ
name_in (ok h e) = h.name
name_in (stop c e) = []
name_in (bad c e) = []

abbrev pub name_length : Result Head → ℕ
name_length r = length (name_in r)

-- reading the header with a lent buffer, where the reader stands: its name is the start of what the buffer holds later
pub record HeadedBy (old new : TextReader) (lent later : List ℕ) (r : Answer (XbmHeaderData × Bor (List ℕ)) (XbmDecodeError (Unit {0}))) : Type 0 where
  pub reads : Decodes (header (length lent)) old new (headed_by r)
  pub named : take (length (name_by r)) later ≡ name_by r
  pub symbol : later ≡ overlay (stored_from old.location (length lent) old.text.now) lent

-- reading the header of a text with a lent name buffer: the answer, the name's length, the buffer later
pub record Headed (text lent later : List ℕ) (r : NamedAnswer (XbmHeaderData × TextLocation) (XbmDecodeError TextLocation)) : Type 0 where
  pub answer : told_header (take r.name later) r.answer ≡ shown (header (length lent) text start)
  pub size : r.name ≡ name_length (header (length lent) text start)
  pub symbol : later ≡ overlay (stored (length lent) text) lent
