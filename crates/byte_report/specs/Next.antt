-- What is told of a data byte, as include/xbm.h lists it: a result number, and a report of ten numbers.
use Rattle.std.specs.Prelude.{ℕ, List, [], ◌∷◌}
use Rattle.std.proofs.Math.Option.{Option, none, some}
use Rattle.text.specs.declared.TextLocation.{TextLocation}
use Rattle.text.specs.Place.{nowhere}
use Rattle.text.specs.Outcome.{Outcome, accepted, refused, unplaced, outcome_number}
use Rattle.decoder.specs.declared.XbmStreamDecoder.{XbmStreamDecoder}

-- 0 where the call is accepted, else the number of the refusal
abbrev pub next_number : Outcome (Option ℕ) → ℕ
next_number a = outcome_number a

-- the place told, and the data byte
abbrev pub reported : TextLocation → ℕ → List ℕ
reported p b = p.byte.0 ∷ p.line.0 ∷ p.column.0 ∷ 0 ∷ 0 ∷ 0 ∷ 0 ∷ b ∷ p.start.0 ∷ 0 ∷ []

-- the data byte, or 256 when none is left
abbrev pub data_of : Option ℕ → ℕ
data_of (some b) = b
data_of none = 256

-- accepted: the place after the call; a refusal: its place, and no data byte
abbrev pub next_report : Outcome (Option ℕ) → XbmStreamDecoder → List ℕ
next_report (accepted b) d = reported d.location (data_of b)
next_report (refused c p) d = reported p 0
next_report (unplaced c) d = reported nowhere 0
