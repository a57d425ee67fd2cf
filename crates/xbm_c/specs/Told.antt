-- What the calls that read a header or a picture tell of a text, and the buffers after them.
use Rattle.std.specs.Prelude.{◌≡◌, ℕ, List, length, ℤ}
use Rattle.text.specs.Place.{start}
use Rattle.text.specs.Outcome.{shown}
use Rattle.lexical.specs.Token.{overlay}
use Rattle.header.specs.Header.{header}
use Rattle.symbol.specs.Symbol.{stored}
use Rattle.header.specs.Answer.{name_length}
use Rattle.image.specs.Reading.{reading}
use Rattle.report.specs.declared.Summary.{Summary}
use Rattle.report.specs.Report.{of_header, of_image, coordinates, report_of}

-- what is told, for a text and the lent buffers
unfoldable pub header_told : List ℕ → List ℕ → Summary
header_told text name = of_header (shown (header (length name) text start)) (name_length (header (length name) text start))

unfoldable pub image_told : List ℕ → List ℕ → List ℕ → Summary
image_told text name pixels = of_image (reading text name pixels).answer (length (reading text name pixels).name)

-- a call that tells s: its result, its report and its hotspot
pub record Tells (s : Summary) (report' : List ℕ) (hotspot' : List ℤ) (r : ℕ) : Type 0 where
  pub number : r ≡ s.number
  pub report : report' ≡ report_of s
  pub hotspot : hotspot' ≡ coordinates s.hotspot

-- reading a header: what is told, and the later name buffer
pub record HeaderCall (text name name' report' : List ℕ) (hotspot' : List ℤ) (r : ℕ) : Type 0 where
  pub told : Tells (header_told text name) report' hotspot' r
  pub symbol : name' ≡ overlay (stored (length name) text) name

-- reading a picture: what is told, and the two later buffers
pub record ImageCall (text name pixels name' pixels' report' : List ℕ) (hotspot' : List ℤ) (r : ℕ) : Type 0 where
  pub told : Tells (image_told text name pixels) report' hotspot' r
  pub symbol : name' ≡ (reading text name pixels).symbol
  pub cells : pixels' ≡ (reading text name pixels).pixels
