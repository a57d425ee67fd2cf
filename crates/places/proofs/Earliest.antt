-- THE CLAIM ON THE EARLIEST PLACE: the bytes before the wrong one can still be saved, and with it no longer. To believe
-- it, read: the grammar (Lang and Grammar), the reading that all contracts cite (Reading and what it names), Terms of
-- `claims` and of `refusals`, Savable (the words used here, and what it names), the record of specs/Earliest, and the
-- statements of this file. Every proof below is a citation.
use Rattle.std.specs.Prelude.{◌≡◌, ℕ, ◌<◌, List}
use Rattle.text.specs.declared.TextLocation.{TextLocation}
use Rattle.text.specs.Place.{byte_of}
use Rattle.text.specs.Outcome.{refused}
use Rattle.image.specs.Reading.{reading}
use Rattle.grammar.specs.Lang.{Lang}
use Rattle.places.specs.Savable.{Savable, SavableLine, Width}
use Rattle.places.proofs.EarliestWidth
use Rattle.places.proofs.EarliestRows
use Rattle.places.proofs.EarliestArray
use Rattle.places.proofs.EarliestData
use Rattle.places.proofs.EarliestEnd
use Rattle.places.proofs.EarliestOnce
use Rattle.places.specs.Earliest.{Earliest}

-- A text that is refused with number c at p.
pub earliest : (text name pixels : List ℕ) (c : ℕ) (p : TextLocation) → (reading text name pixels).answer ≡ refused c p
    → Earliest text name pixels c p
earliest t name pixels c p q = record {
  n1 = λ e. EarliestWidth.earliest-1 t name pixels p (rw e at q);
  n2 = λ e. EarliestRows.earliest-2 t name pixels p (rw e at q);
  n3 = λ e. EarliestRows.earliest-3 t name pixels p (rw e at q);
  n4 = λ e. EarliestRows.earliest-4 t name pixels p (rw e at q);
  n5 = λ e. EarliestArray.earliest-5 t name pixels p (rw e at q);
  n6 = λ e. EarliestData.earliest-6 t name pixels p (rw e at q);
  n7 = λ e. EarliestData.earliest-7 t name pixels p (rw e at q);
  n8 = λ e. EarliestEnd.earliest-8 t name pixels p (rw e at q);
}

-- Why a name buffer below 6 bytes stands apart: with it no text at all begins with a width line.
pub cramped : (limit : ℕ) (text : List ℕ) → limit < 6 → Width limit text → ⊥
cramped = EarliestWidth.no_room

-- That fixes the place: of one text no two places can both be so, whatever is to stand there.
pub once : (L : Lang) (text : List ℕ) (p q : TextLocation) → Savable text p L → Savable text q L → byte_of p ≡ byte_of q
once = EarliestOnce.once

pub once-line : (K L : Lang) (text : List ℕ) (p q : TextLocation) → SavableLine text p K L → SavableLine text q K L
    → byte_of p ≡ byte_of q
once-line K L t p q = EarliestOnce.once-line L t p q
