-- The reading of pixels within limits on the text's bytes and on the cells: the first limit, the header, the second,
-- then the picture, into the first width times height cells lent.
use Rattle.std.specs.Prelude.{◌≡◌, ℕ, ◌*◌, ◌≤◌, ◌<◌, true, List, [], ◌++◌, length, take, drop, ltb, None, Result as Answer, Err}
use Rattle.text.specs.declared.TextLocation.{TextLocation}
use Rattle.text.specs.Place.{pick, start}
use Rattle.text.specs.Reader.{Result, ok, stop, bad}
use Rattle.text.specs.Outcome.{Outcome, refused, unplaced, outcome}
use Rattle.lexical.specs.Token.{overlay}
use Rattle.error.specs.declared.Refusal.{Refusal}
use Rattle.error.specs.Error.{image_refusal}
use Rattle.symbol.specs.Symbol.{stored}
use Rattle.header.specs.declared.XbmHeaderData.{XbmHeaderData}
use Rattle.header.specs.Header.{Head, header}
use Rattle.header.specs.Answer.{head_of}
use Rattle.body.specs.Data.{log_of}
use Rattle.cells.specs.Cells.{painted, count}
use Rattle.rows.specs.Rows.{whole}
use Rattle.image.specs.Reading.{Reading, reading, told_picture, Answers}
use Rattle.header.specs.declared.NamedAnswer.{NamedAnswer}
use Rattle.image.specs.declared.LimitedError.{LimitedError}
use Rattle.image.specs.declared.LimitedError.TheVariants.{TextTooLong, PictureTooLarge, Image}

-- the cells of a picture
abbrev pub cells_of : Head → ℕ
cells_of h = h.width * h.height

-- only the header was read
abbrev pub unpictured : Outcome Head → List ℕ → List ℕ → List ℕ → List ℕ → Reading
unpictured a handed text name cells = record { answer = a; name = handed; symbol = overlay (stored (length name) text) name; pixels = cells }

-- a picture read into the first cells lent, the others as lent
abbrev pub pictured : Reading → List ℕ → Reading
pictured r others = record { answer = r.answer; name = r.name; symbol = r.symbol; pixels = r.pixels ++ others }

-- after the header: more cells than the limit are 42
unfoldable pub after_header : ℕ → List ℕ → List ℕ → List ℕ → Result Head → Reading
after_header limit text name cells (ok h e) =
    pick (ltb limit (cells_of h)) (unpictured (unplaced 42) h.name text name cells) (pictured (reading text name (take (cells_of h) cells)) (drop (cells_of h) cells))
after_header limit text name cells (stop c p) = unpictured (refused c p) [] text name cells
after_header limit text name cells (bad c p) = unpictured (unplaced c) [] text name cells

unfoldable pub limited : ℕ → List ℕ → List ℕ → List ℕ → Reading
limited limit text name cells = after_header limit text name cells (header (length name) text start)

-- nothing was read
abbrev pub unread : Outcome Head → List ℕ → List ℕ → Reading
unread a name cells = record { answer = a; name = []; symbol = name; pixels = cells }

-- before the header: a text above its limit is 41, and nothing is read; then the reading within the limit on the cells
unfoldable pub within : ℕ → ℕ → List ℕ → List ℕ → List ℕ → Reading
within bytes most text name cells =
    pick (ltb bytes (length text)) (unread (unplaced 41) name cells) (limited most text name cells)

-- ---- what the code answers

abbrev pub limited_refusal : LimitedError → Refusal
limited_refusal TextTooLong = record { number = 41; place = None }
limited_refusal PictureTooLarge = record { number = 42; place = None }
limited_refusal (Image e) = image_refusal e

abbrev pub told_limited : List ℕ → Answer XbmHeaderData LimitedError → Outcome Head
told_limited name r = told_picture limited_refusal name r

-- reading within the limit on the cells, and within both limits
abbrev pub Limited : ℕ → List ℕ → List ℕ → List ℕ → List ℕ → List ℕ → NamedAnswer XbmHeaderData LimitedError → Type 0
Limited limit text name cells name' cells' r = Answers limited_refusal (limited limit text name cells) name' cells' r

abbrev pub Within : ℕ → ℕ → List ℕ → List ℕ → List ℕ → List ℕ → List ℕ → NamedAnswer XbmHeaderData LimitedError → Type 0
Within bytes most text name cells name' cells' r = Answers limited_refusal (within bytes most text name cells) name' cells' r

-- reading what follows an accepted header d, from place p on: nothing above the limit, else the picture into the first n cells
pub record Bounded (limit : ℕ) (d : XbmHeaderData) (t : List ℕ) (p : TextLocation) (lent later : List ℕ) (r : Answer XbmHeaderData LimitedError) : Type 0 where
  pub large : limit < d.width * d.height → (r ≡ Err PictureTooLarge) × (later ≡ lent)
  pub answer : d.width * d.height ≤ limit → (name : List ℕ)
      → told_limited name r ≡ outcome (λ (l : List ℕ). head_of name d) (whole d.width d.height (length (take (d.width * d.height) lent)) t p)
  pub stored : d.width * d.height ≤ limit
      → later ≡ painted d.width (log_of (count d.width d.height (length (take (d.width * d.height) lent))) true t p) (take (d.width * d.height) lent) ++ drop (d.width * d.height) lent
