-- THE CLAIMS ON REFUSALS: which number comes, of a text and of a lent decoder, and what is left in the decoder and in the name buffer. To believe
-- them, read the grammar (Lang, Grammar), the words (Terms here, in claims and in faults), the records of specs/Refusals and the statements of this file. No reader stands in a statement but `reading` and
-- `step_of`, which the contracts of the code cite. Every proof below is a citation. Where a refusal is told: places.
use Rattle.std.specs.Prelude.{◌≡◌, ◌↔◌, ℕ, List, length}
use Rattle.std.proofs.Math.Option.{none}
use Rattle.text.specs.declared.TextLocation.{TextLocation}
use Rattle.text.specs.Outcome.{accepted, refused, unplaced}
use Rattle.integer.specs.declared.Fault.TheVariants.{Empty, LeadingZero, NotDigit, OutOfRange}
use Rattle.decoder.specs.declared.XbmStreamDecoder.{XbmStreamDecoder}
use Rattle.decoder.specs.Step.{step_of}
use Rattle.image.specs.Reading.{reading}
use Rattle.claims.specs.Terms.{over}
use Rattle.claims.proofs.Mismatch
use Rattle.refusals.specs.Terms.{InTable, Foreign, moved, Spent, Stores}
use Rattle.refusals.proofs.Table
use Rattle.refusals.proofs.HeaderRows
use Rattle.refusals.proofs.HotspotRows
use Rattle.refusals.proofs.ArrayRow
use Rattle.refusals.proofs.DataRows
use Rattle.refusals.proofs.Calls
use Rattle.refusals.proofs.CallRows
use Rattle.refusals.proofs.Stored
use Rattle.refusals.specs.Refusals.{Refusals, Called}

-- 1. NUMBERS. Document 01's table of refusals, of every text, name buffer and pixel buffer.
pub numbers : (text name pixels : List ℕ) → Refusals text name pixels (reading text name pixels).answer
numbers t name pixels = record {
  n1 = HeaderRows.row-1 t name pixels;
  n111 = HeaderRows.row-width t name pixels Empty;
  n112 = HeaderRows.row-width t name pixels LeadingZero;
  n113 = HeaderRows.row-width t name pixels NotDigit;
  n114 = HeaderRows.row-width t name pixels OutOfRange;
  n21 = HeaderRows.row-21 t name pixels;
  n2 = HeaderRows.row-2 t name pixels;
  n121 = HeaderRows.row-height t name pixels Empty;
  n122 = HeaderRows.row-height t name pixels LeadingZero;
  n123 = HeaderRows.row-height t name pixels NotDigit;
  n124 = HeaderRows.row-height t name pixels OutOfRange;
  n22 = HeaderRows.row-22 t name pixels;
  n3 = HotspotRows.row-3 t name pixels;
  n131 = HotspotRows.row-x t name pixels Empty;
  n132 = HotspotRows.row-x t name pixels LeadingZero;
  n133 = HotspotRows.row-x t name pixels NotDigit;
  n134 = HotspotRows.row-x t name pixels OutOfRange;
  n4 = HotspotRows.row-4 t name pixels;
  n141 = HotspotRows.row-y t name pixels Empty;
  n142 = HotspotRows.row-y t name pixels LeadingZero;
  n143 = HotspotRows.row-y t name pixels NotDigit;
  n144 = HotspotRows.row-y t name pixels OutOfRange;
  n5 = ArrayRow.row-5 t name pixels;
  n6 = DataRows.row-6 t name pixels;
  n7 = DataRows.row-7 t name pixels;
  n8 = DataRows.row-8 t name pixels;
  n31 = Mismatch.exactly-31 t name pixels;
}

-- And no other number comes: with `accepts` these rows are all that can be answered.
pub no_other : (text name pixels : List ℕ) → InTable (reading text name pixels).answer
no_other = Table.in_table

-- 2. DECODERS. 9 comes exactly of a foreign decoder, which then stays as it is.
pub nine : (text : List ℕ) (d : XbmStreamDecoder) → ((step_of text d).answer ≡ unplaced 9) ↔ Foreign text d
nine = Calls.nine

pub stays : (text : List ℕ) (d : XbmStreamDecoder) → Foreign text d → (step_of text d).decoder ≡ d
stays = Calls.unchanged

-- A call on any other decoder.
pub calls : (text : List ℕ) (d : XbmStreamDecoder) → (Foreign text d → ⊥) → Called text d (step_of text d)
calls t d h = record {
  gives = CallRows.gives t d h;
  after = CallRows.after-byte t d h;
  n6 = CallRows.row-6 t d h;
  done = CallRows.done t d h;
  ended = CallRows.after-end t d h;
  n7 = CallRows.row-7 t d h;
  n8 = CallRows.row-8 t d h;
  there = CallRows.there t d h;
  never-foreign = CallRows.never-foreign t d h;
  aligned = CallRows.aligned t d h;
}

-- A refused call has spent its data byte, if one was left, and stands at the place told.
pub goes_on : (text : List ℕ) (d : XbmStreamDecoder) (c : ℕ) (p : TextLocation) → (step_of text d).answer ≡ refused c p
    → (k : ℕ) × Spent d k × ((step_of text d).decoder ≡ moved d k p)
goes_on = Calls.goes_on

-- A call after a sound trailer meets the end and gives 7, where the decoder stands, and it stays there.
pub seven : (text : List ℕ) (d : XbmStreamDecoder) → (step_of text d).answer ≡ accepted none
    → ((step_of text (step_of text d).decoder).answer ≡ refused 7 (step_of text d).decoder.location)
    × ((step_of text (step_of text d).decoder).decoder ≡ (step_of text d).decoder)
seven = Calls.seven

-- 3. THE NAME BUFFER. Every text has its symbol bytes, and the buffer later holds these from its start on, the rest as lent.
pub symbols : (text name : List ℕ) → (w : List ℕ) × Stores (length name) text w
symbols = Stored.symbols

pub stores : (text name pixels w : List ℕ) → Stores (length name) text w → (reading text name pixels).symbol ≡ over w name
stores = Stored.stores
