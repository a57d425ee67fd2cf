-- What the listing program prints of a text: document 01's program, its limits included.
use Rattle.std.specs.Prelude.{ℕ, ◌≡◌, List, [], take, Result, Ok, Err}
use Rattle.text.specs.Outcome.{Outcome, accepted, refused, unplaced}
use Rattle.error.specs.declared.Refusal.{Refusal}
use Rattle.error.specs.Error.{told_refusal}
use Rattle.header.specs.declared.XbmHeaderData.{XbmHeaderData}
use Rattle.header.specs.Header.{Head}
use Rattle.header.specs.Answer.{head_of}
use Rattle.ink.specs.Ink.{ink_of}
use Rattle.image.specs.Reading.{Reading}
use Rattle.image.specs.Limited.{cells_of, within}
use Rattle.print.specs.Output.{output, puts}
use Rattle.printing.specs.Printed.{printed}

-- the program's limits: bytes of a text (41), cells of a picture (42)
abbrev pub text_limit : ℕ
text_limit = 65536

abbrev pub cell_limit : ℕ
cell_limit = 65536

-- ---- what is listed of a text, with a lent name buffer and lent cells

pub record Listed : Type 0 where
  pub told : Outcome Head
  pub ink : ℕ
  -- the later name buffer and the later cells
  pub symbol : List ℕ
  pub cells : List ℕ

-- the ink of an accepted picture
abbrev pub ink_in : Outcome Head → List ℕ → ℕ
ink_in (accepted h) cells = ink_of (take (cells_of h) cells)
ink_in (refused c p) cells = 0
ink_in (unplaced c) cells = 0

-- a reading, listed
abbrev pub listed_of : Reading → Listed
listed_of r = record { told = r.answer; ink = ink_in r.answer r.pixels; symbol = r.symbol; cells = r.pixels }

-- the reading within both limits, listed: a text above its own is 41
unfoldable pub listed_within : ℕ → ℕ → List ℕ → List ℕ → List ℕ → Listed
listed_within bytes most text name cells = listed_of (within bytes most text name cells)

-- with the program's limits
abbrev pub listed : List ℕ → List ℕ → List ℕ → Listed
listed text name cells = listed_within text_limit cell_limit text name cells

abbrev pub listed_text : Listed → List ℕ
listed_text l = printed l.told l.ink

abbrev pub listing : List ℕ → List ℕ → List ℕ → List ℕ
listing text name cells = listed_text (listed text name cells)

-- ---- what the code answers

-- what is told of an answer: the name is not printed, so any name will do
abbrev pub told_list : List ℕ → Result (XbmHeaderData × ℕ) Refusal → Outcome Head
told_list name (Ok r) = accepted (head_of name r.0)
told_list name (Err e) = told_refusal e

abbrev pub ink_told : Result (XbmHeaderData × ℕ) Refusal → ℕ
ink_told (Ok r) = r.1
ink_told (Err e) = 0

-- the printed text of an answer
abbrev pub answer_text : Result (XbmHeaderData × ℕ) Refusal → List ℕ
answer_text r = printed (told_list [] r) (ink_told r)

-- reading a text for the listing: what is printed, and the buffers later
pub record Answered (bytes most : ℕ) (text name cells name' cells' : List ℕ) (r : Result (XbmHeaderData × ℕ) Refusal) : Type 0 where
  pub prints : answer_text r ≡ listed_text (listed_within bytes most text name cells)
  pub named : name' ≡ (listed_within bytes most text name cells).symbol
  pub filled : cells' ≡ (listed_within bytes most text name cells).cells

-- the same, with the text put into a lent buffer from its start on
pub record Lists (bytes most : ℕ) (text name cells out name' cells' out' : List ℕ) (r : ℕ) : Type 0 where
  pub prints : output out' r ≡ puts (listed_text (listed_within bytes most text name cells)) (output out 0)
  pub named : name' ≡ (listed_within bytes most text name cells).symbol
  pub filled : cells' ≡ (listed_within bytes most text name cells).cells
