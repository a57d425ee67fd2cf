-- What the claims on the program say of a listing, as records. The claims stand in proofs/Program.
use Rattle.std.specs.Prelude.{◌≡◌, ◌↔◌, ℕ, ◌*◌, ◌≤◌, ◌<◌, List, ◌++◌, length, take, drop}
use Rattle.text.specs.declared.TextLocation.{TextLocation}
use Rattle.text.specs.Place.{byte_of, start, past}
use Rattle.text.specs.Outcome.{refused, unplaced}
use Rattle.image.specs.Reading.{reading}
use Rattle.ink.specs.Ink.{ink_of}
use Rattle.image.specs.Limited.{cells_of}
use Rattle.printing.specs.Printed.{accepted_text, printed}
use Rattle.listing.specs.Listing.{Listed, listing}
use Rattle.grammar.specs.Grammar.{Mask, Header}
use Rattle.claims.specs.Terms.{head_of, Last, Begun}

-- 2. LISTINGS. A text that writes m, that the limits let through, with cells enough for the picture; and its first n bytes.
pub record Shown (text name cells : List ℕ) (m : Mask) (n : ℕ) : Type 0 where
  -- the whole prints its four lines, the ink being the count of 0 cells of the picture
  pub lines : listing text name cells ≡ accepted_text (head_of m) (ink_of (reading text name (take (cells_of (head_of m)) cells)).pixels)
  -- the closing semicolon
  pub semicolon : ℕ
  pub last : Last 59 text semicolon
  -- without it the first n bytes print a refusal by a Parse, at byte n
  pub early : n ≤ semicolon
      → (number : ℕ) × (place : TextLocation) × (listing (take n text) name cells ≡ printed (refused number place) 0) × (1 ≤ number) × (number ≤ 7) × (byte_of place ≡ n) × (place ≡ past start (take n text))
  -- with it they print what the whole prints
  pub late : semicolon < n → listing (take n text) name cells ≡ listing text name cells

-- 3. LIMITS. A text of more than 65,536 bytes is refused with 41, read or not; a header of more than 65,536 cells with 42. Else the listing is the reading's.
pub record Limits (text name cells : List ℕ) (list : Listed) : Type 0 where
  pub long : (list.told ≡ unplaced 41) ↔ (65536 < length text)
  pub large : (list.told ≡ unplaced 42)
      ↔ ((length text ≤ 65536) × ((m : Mask) × Begun (Header (length name) m) text × (65536 < m.width * m.height)))
  -- 41 leaves both buffers as lent, 42 the cells; the name buffer then holds what any reading leaves there
  pub unread : 65536 < length text → (list.symbol ≡ name) × (list.cells ≡ cells)
  pub unpictured : length text ≤ 65536 → (m : Mask) → Begun (Header (length name) m) text → 65536 < m.width * m.height
      → (list.symbol ≡ (reading text name cells).symbol) × (list.cells ≡ cells)
  -- a header within the limits: the reading into the first width times height cells, the others as lent
  pub read : length text ≤ 65536 → (m : Mask) → Begun (Header (length name) m) text → m.width * m.height ≤ 65536
      → (list.told ≡ (reading text name (take (m.width * m.height) cells)).answer)
      × (list.symbol ≡ (reading text name (take (m.width * m.height) cells)).symbol)
      × (list.cells ≡ (reading text name (take (m.width * m.height) cells)).pixels ++ drop (m.width * m.height) cells)
  -- no header: what every reading tells of it
  pub headless : length text ≤ 65536 → ((m : Mask) → Begun (Header (length name) m) text → ⊥) → (pixels : List ℕ)
      → (list.told ≡ (reading text name pixels).answer) × (list.symbol ≡ (reading text name pixels).symbol) × (list.cells ≡ cells)
