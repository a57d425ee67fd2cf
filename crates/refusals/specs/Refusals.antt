-- What the claims on refusals say of a text and of a call, as records. The claims stand in proofs/Refusals, where also stands what to read to
-- believe them.
use Rattle.std.specs.Prelude.{◌≡◌, ◌↔◌, ℕ, ◌+◌, ◌-◌, ◌≤◌, ◌<◌, List, ◌++◌, length, take}
use Rattle.std.proofs.Math.Option.{none, some}
use Rattle.text.specs.declared.TextLocation.{TextLocation}
use Rattle.text.specs.Place.{byte_of, past}
use Rattle.text.specs.Outcome.{Outcome, accepted, refused, unplaced}
use Rattle.header.specs.Header.{Head}
use Rattle.decoder.specs.declared.XbmStreamDecoder.{XbmStreamDecoder}
use Rattle.decoder.specs.Step.{Step}
use Rattle.grammar.specs.Lang.{◌·◌}
use Rattle.grammar.specs.Grammar.{Loose, Closing}
use Rattle.faults.specs.Terms.{Nothing, ZeroLed, Marred, Above, PastSign, Beyond}
use Rattle.claims.specs.Terms.{Begun, Mismatched, Aligned}
use Rattle.refusals.specs.Terms.{Placed, NoWidthLine, BadWidth, ZeroWidth, NoHeightLine, BadHeight, ZeroHeight, NoXLine, BadX, NoYLine, BadY, NoArrayLine, NoDataByte, NoClosing, MoreBehind, No, Foreign, size_of, ahead, moved, Item}

-- 1. NUMBERS. Document 01's table of refusals, with an integer's four faults: each number comes exactly if all before it stands at the text's start
-- and its own condition holds.
pub record Refusals (text name pixels : List ℕ) (a : Outcome Head) : Type 0 where
  pub n1 : Placed a 1 ↔ NoWidthLine (length name) text
  pub n111 : (a ≡ unplaced 111) ↔ BadWidth (length name) Nothing text
  pub n112 : (a ≡ unplaced 112) ↔ BadWidth (length name) ZeroLed text
  pub n113 : (a ≡ unplaced 113) ↔ BadWidth (length name) Marred text
  pub n114 : (a ≡ unplaced 114) ↔ BadWidth (length name) (Above 4294967295) text
  pub n21 : (a ≡ unplaced 21) ↔ ZeroWidth (length name) text
  pub n2 : Placed a 2 ↔ NoHeightLine (length name) text
  pub n121 : (a ≡ unplaced 121) ↔ BadHeight (length name) Nothing text
  pub n122 : (a ≡ unplaced 122) ↔ BadHeight (length name) ZeroLed text
  pub n123 : (a ≡ unplaced 123) ↔ BadHeight (length name) Marred text
  pub n124 : (a ≡ unplaced 124) ↔ BadHeight (length name) (Above 4294967295) text
  pub n22 : (a ≡ unplaced 22) ↔ ZeroHeight (length name) text
  pub n3 : Placed a 3 ↔ NoXLine (length name) text
  pub n131 : (a ≡ unplaced 131) ↔ BadX (length name) (PastSign Nothing) text
  pub n132 : (a ≡ unplaced 132) ↔ BadX (length name) (PastSign ZeroLed) text
  pub n133 : (a ≡ unplaced 133) ↔ BadX (length name) (PastSign Marred) text
  pub n134 : (a ≡ unplaced 134) ↔ BadX (length name) Beyond text
  pub n4 : Placed a 4 ↔ NoYLine (length name) text
  pub n141 : (a ≡ unplaced 141) ↔ BadY (length name) (PastSign Nothing) text
  pub n142 : (a ≡ unplaced 142) ↔ BadY (length name) (PastSign ZeroLed) text
  pub n143 : (a ≡ unplaced 143) ↔ BadY (length name) (PastSign Marred) text
  pub n144 : (a ≡ unplaced 144) ↔ BadY (length name) Beyond text
  pub n5 : Placed a 5 ↔ NoArrayLine (length name) text
  pub n6 : Placed a 6 ↔ NoDataByte (length name) text pixels
  pub n7 : Placed a 7 ↔ NoClosing (length name) text pixels
  pub n8 : Placed a 8 ↔ MoreBehind (length name) text pixels
  pub n31 : (a ≡ unplaced 31) ↔ Mismatched (length name) text pixels

-- A call on any other decoder, by what stands in the text from its place on.
pub record Called (text : List ℕ) (d : XbmStreamDecoder) (call : Step) : Type 0 where
  -- a data byte is left, and it stands there: it is given, one more is spent, and the decoder stands after it
  pub gives : (b : ℕ) → (call.answer ≡ accepted (some b))
      ↔ ((d.current_position < size_of d) × Begun (Item d.current_position b) (ahead text d))
  pub after : (b : ℕ) (w v : List ℕ) → d.current_position < size_of d → ahead text d ≡ w ++ v → Item d.current_position b w
      → call.decoder ≡ moved d (d.current_position + 1) (past d.location w)
  -- none stands there: 6
  pub n6 : Placed call.answer 6 ↔ ((d.current_position < size_of d) × ((b : ℕ) → No (Item d.current_position b) (ahead text d)))
  -- none is left, and the trailer stands there to the text's end: nothing is given, and the decoder stands at the end
  pub done : (call.answer ≡ accepted none) ↔ ((d.current_position ≡ size_of d) × (Closing · Loose) (ahead text d))
  pub ended : d.current_position ≡ size_of d → (Closing · Loose) (ahead text d)
      → call.decoder ≡ moved d d.current_position (past d.location (ahead text d))
  -- no closing stands there: 7; one does, with more behind it than loose space: 8
  pub n7 : Placed call.answer 7 ↔ ((d.current_position ≡ size_of d) × No Closing (ahead text d))
  pub n8 : Placed call.answer 8
      ↔ ((d.current_position ≡ size_of d) × Begun Closing (ahead text d) × ((Closing · Loose) (ahead text d) → ⊥))
  -- the place of a refusal is past some of these bytes
  pub there : (c : ℕ) (p : TextLocation) → call.answer ≡ refused c p
      → (byte_of d.location ≤ byte_of p) × (byte_of p ≤ length text) × (p ≡ past d.location (take (byte_of p - byte_of d.location) (ahead text d)))
  -- the later decoder is not foreign either: its line's start too is right
  pub never-foreign : Foreign text call.decoder → ⊥
  pub aligned : Aligned call.decoder.location
