-- One call for the next data byte: the answer, and the decoder after it.
use Rattle.std.specs.Prelude.{ℕ, ◌+◌, Bool, true, List, eqb, ltb, Option as Given, Result as Answer, Ok, Err}
use Rattle.std.proofs.Math.Option.{Option, none, some}
use Rattle.text.specs.declared.TextLocation.{TextLocation}
use Rattle.text.specs.Place.{pick, is_foreign}
use Rattle.text.specs.Reader.{end_of, Reader, ◌>>=◌, ◌>>◌}
use Rattle.text.specs.Leaf.{give}
use Rattle.text.specs.Outcome.{Outcome, accepted, refused, unplaced, outcome, given}
use Rattle.lexical.specs.Lexical.{number}
use Rattle.body.specs.Data.{item, trailer, bytes_of}
use Rattle.decoder.specs.declared.XbmStreamDecoder.{XbmStreamDecoder}
use Rattle.decoder.specs.declared.StreamError.{StreamError}
use Rattle.decoder.specs.declared.StreamError.TheVariants.{Parse, Foreign}
use Rattle.decoder.specs.declared.Stepped.{Stepped}

-- document 01's foreign decoder: numbers that no header of this text gave, or a place that the text has not
unfoldable pub foreign : List ℕ → XbmStreamDecoder → Bool
foreign t d =
    pick (eqb d.width 0) true
    (pick (eqb d.height 0) true
    (pick (ltb (bytes_of d.width d.height) d.current_position) true
    (is_foreign t d.location)))

-- a data byte is left
abbrev pub more : XbmStreamDecoder → Bool
more d = ltb d.current_position (bytes_of d.width d.height)

-- what is read: the next data byte, or after the last the trailer
unfoldable pub called : XbmStreamDecoder → Reader (Option ℕ)
called d = pick (more d) (item (eqb d.current_position 0) >>= λ b. give (some b)) (trailer >> give none)

-- a data byte is spent before it is read
abbrev pub spent : XbmStreamDecoder → ℕ
spent d = pick (more d) (d.current_position + 1) d.current_position

-- the decoder at another position and place
abbrev pub placed_at : XbmStreamDecoder → ℕ → TextLocation → XbmStreamDecoder
placed_at d k e = record { width = d.width; height = d.height; current_position = k; location = e }

pub record Step : Type 0 where
  pub answer : Outcome (Option ℕ)
  pub decoder : XbmStreamDecoder

unfoldable pub step_of : List ℕ → XbmStreamDecoder → Step
step_of t d = record {
  answer = pick (foreign t d) (unplaced 9) (outcome (λ b. b) (called d t d.location));
  decoder = pick (foreign t d) d (placed_at d (spent d) (end_of (called d t d.location)));
}

-- an answer of the code, where the decoder then stands: the byte, none left, or the refusal's number and place
abbrev pub told_next : Answer (Given ℕ) StreamError → TextLocation → Outcome (Option ℕ)
told_next (Ok b) e = accepted (given b)
told_next (Err (Parse part)) e = refused (number part) e
told_next (Err Foreign) e = unplaced 9

-- an answer, with the decoder after it
abbrev pub told_call : Answer (Given ℕ) StreamError → XbmStreamDecoder → Step
told_call a d = record { answer = told_next a d.location; decoder = d }

abbrev pub told_step : Stepped → Step
told_step r = told_call r.answer r.decoder
