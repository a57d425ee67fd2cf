-- The reading of pixels from a text: what it answers, and what the two lent buffers hold after it. All contracts above the header
-- cite this.
use Rattle.std.specs.Prelude.{◌≡◌, ℕ, ◌≤◌, true, List, length, take, Result as Answer, Ok, Err}
use Rattle.text.specs.declared.TextLocation.{TextLocation}
use Rattle.text.specs.Place.{start}
use Rattle.text.specs.Reader.{Result, ok, stop, bad, Reader, ◌>>=◌}
use Rattle.text.specs.Leaf.{give}
use Rattle.text.specs.Outcome.{Outcome, accepted, outcome}
use Rattle.lexical.specs.Token.{overlay}
use Rattle.error.specs.declared.ImageError.{ImageError}
use Rattle.error.specs.declared.Refusal.{Refusal}
use Rattle.error.specs.Error.{image_refusal, told_refusal}
use Rattle.symbol.specs.Symbol.{stored}
use Rattle.header.specs.declared.XbmHeaderData.{XbmHeaderData}
use Rattle.header.specs.Header.{Head, header}
use Rattle.header.specs.Answer.{head_of, name_in}
use Rattle.body.specs.Data.{log_of}
use Rattle.cells.specs.Cells.{painted, count}
use Rattle.rows.specs.Rows.{whole}
use Rattle.header.specs.declared.NamedAnswer.{NamedAnswer}

-- the header and the data bytes of a text, for a buffer of n cells, with a limit on the width's symbol
unfoldable pub picture : ℕ → ℕ → Reader (Head × List ℕ)
picture limit n = header limit >>= λ h. whole h.width h.height n >>= λ l. give (h, l)

-- the cells of every data byte read, where they fall in a whole row of the buffer; the rest as lent
abbrev pub cells_in : Result Head → List ℕ → List ℕ → List ℕ
cells_in (ok h e) lent t = painted h.width (log_of (count h.width h.height (length lent)) true t e) lent
cells_in (stop c e) lent t = lent
cells_in (bad c e) lent t = lent

pub record Reading : Type 0 where
  -- the header if accepted, or the refusal's number and, where one is told, its place
  pub answer : Outcome Head
  -- the name handed back
  pub name : List ℕ
  -- the later name buffer
  pub symbol : List ℕ
  -- the later pixel buffer
  pub pixels : List ℕ

-- a text, read with a lent name buffer and a lent pixel buffer
unfoldable pub reading : List ℕ → List ℕ → List ℕ → Reading
reading text name pixels = record {
  answer = outcome (λ (p : Head × List ℕ). p.0) (picture (length name) (length pixels) text start);
  name = name_in (header (length name) text start);
  symbol = overlay (stored (length name) text) name;
  pixels = cells_in (header (length name) text start) pixels text;
}

-- ---- what the code answers

abbrev pub told_picture : {E : Type 0} → (E → Refusal) → List ℕ → Answer XbmHeaderData E → Outcome Head
told_picture refusal name (Ok d) = accepted (head_of name d)
told_picture refusal name (Err e) = told_refusal (refusal e)

abbrev pub told_image : List ℕ → Answer XbmHeaderData (ImageError TextLocation) → Outcome Head
told_image name r = told_picture image_refusal name r

-- an answer of the code and the buffers after it, as a reading
abbrev pub told_reading : {E : Type 0} → (E → Refusal) → NamedAnswer XbmHeaderData E → List ℕ → List ℕ → Reading
told_reading refusal r name pixels = record { answer = told_picture refusal (take r.name name) r.answer; name = take r.name name; symbol = name; pixels = pixels }

-- what is answered and left is the reading m, and the name is a part of the name buffer
pub record Answers {E : Type 0} (refusal : E → Refusal) (m : Reading) (name' pixels' : List ℕ) (r : NamedAnswer XbmHeaderData E) : Type 0 where
  pub all : told_reading refusal r name' pixels' ≡ m
  pub fits : r.name ≤ length name'

-- reading the pixels of a text
abbrev pub Imaged : List ℕ → List ℕ → List ℕ → List ℕ → List ℕ → NamedAnswer XbmHeaderData (ImageError TextLocation) → Type 0
Imaged text name pixels name' pixels' r = Answers image_refusal (reading text name pixels) name' pixels' r

-- reading what follows an accepted header d, from place p on
pub record Pictured (d : XbmHeaderData) (t : List ℕ) (p : TextLocation) (lent later : List ℕ) (r : Answer XbmHeaderData (ImageError TextLocation)) : Type 0 where
  pub answer : (name : List ℕ) → told_image name r ≡ outcome (λ (l : List ℕ). head_of name d) (whole d.width d.height (length lent) t p)
  pub stored : later ≡ painted d.width (log_of (count d.width d.height (length lent)) true t p) lent
