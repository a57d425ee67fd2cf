-- Worked examples of what is told of a data byte, every number written out as include/xbm.h lists it: the rows of a table, by computing.
use Rattle.std.specs.Prelude.{ℕ, ◌≡◌, refl, List, [], ◌∷◌, map}
use Rattle.std.proofs.Math.Option.{Option, none, some}
use Rattle.text.specs.Place.{place_of}
use Rattle.text.specs.Outcome.{Outcome, accepted, refused, unplaced}
use Rattle.decoder.specs.declared.XbmStreamDecoder.{XbmStreamDecoder}
use Rattle.byte_report.specs.Next.{next_number, next_report}

-- a call's answer; its number and report
record Step : Type 0 where
  told : Outcome (Option ℕ)
  answer : ℕ × List ℕ

abbrev step : Outcome (Option ℕ) → ℕ → List ℕ → Step
step a n report = record { told = a; answer = (n, report) }

-- the decoder after each call
abbrev later : XbmStreamDecoder
later = record { width = 9; height = 2; current_position = 3; location = place_of 141 5 54 87 }

abbrev steps : List Step
steps =
    -- a data byte, none left, a refusal at its own place, a foreign decoder
    step (accepted (some 255)) 0 (141 ∷ 5 ∷ 54 ∷ 0 ∷ 0 ∷ 0 ∷ 0 ∷ 255 ∷ 87 ∷ 0 ∷ [])
    ∷ step (accepted none) 0 (141 ∷ 5 ∷ 54 ∷ 0 ∷ 0 ∷ 0 ∷ 0 ∷ 256 ∷ 87 ∷ 0 ∷ [])
    ∷ step (refused 6 (place_of 137 6 2 135)) 6 (137 ∷ 6 ∷ 2 ∷ 0 ∷ 0 ∷ 0 ∷ 0 ∷ 0 ∷ 135 ∷ 0 ∷ [])
    ∷ step (unplaced 9) 9 (0 ∷ 0 ∷ 0 ∷ 0 ∷ 0 ∷ 0 ∷ 0 ∷ 0 ∷ 0 ∷ 0 ∷ [])
    ∷ []

-- the same by the definitions
abbrev step_says : Step → ℕ × List ℕ
step_says r = (next_number r.told, next_report r.told later)

pub byte-table : map step_says steps ≡ map (λ r. r.answer) steps
byte-table = refl
