-- What a step of the code says of one call for the next data byte.
use Prim.Native.Nat.{ℕ, ◌+◌}
use mathlib.Core.Path.{◌≡◌}
use mathlib.Core.Option.{Option, none, some}
use mathlib.Core.List.{List}
use mathlib.Core.Bool.{true, false}
use lib.Dec.{eqb}
use Rattle.text.specs.Reader.{Result, ok, end_of, then, ◌>>=◌}
use Rattle.text.specs.Leaf.{give}
use Rattle.text.specs.Outcome.{outcome, unplaced}
use Rattle.body.specs.Data.{item, trailer}
use Rattle.decoder.specs.Step.{Step, foreign, more, called, placed_at, step_of}
use Rattle.decoder.specs.declared.XbmStreamDecoder.{XbmStreamDecoder}

-- one call, by what is read
abbrev stepped : XbmStreamDecoder → ℕ → Result (Option ℕ) → Step
stepped d k r = record { answer = outcome (λ b. b) r; decoder = placed_at d k (end_of r) }

module _ (t : List ℕ) (d : XbmStreamDecoder) where
  pub step-foreign : foreign t d ≡ true → step_of t d ≡ record { answer = unplaced 9; decoder = d }
  unfolding step_of
  step-foreign h = rw h

  pub step-data : foreign t d ≡ false → more d ≡ true → step_of t d ≡ stepped d (d.current_position + 1) (then (item (eqb d.current_position 0) t d.location) (λ b e. ok (some b) e))
  unfolding step_of called give ◌>>=◌
  step-data h l = rw (h, l)

  pub step-end : foreign t d ≡ false → more d ≡ false → step_of t d ≡ stepped d d.current_position (then (trailer t d.location) (λ a e. ok none e))
  unfolding step_of called give ◌>>=◌
  step-end h l = rw (h, l)

pub ruleset step_laws = (step-foreign, step-data, step-end)
