-- The theorems about what specs/Foreign.antt defines.
use Rattle.std.specs.Prelude.{ℕ, ◌+◌, ◌-◌, ◌<◌, ◌≡◌, List, true, length}
use Rattle.text.specs.declared.TextLocation.{TextLocation}
use Rattle.text.specs.Place.{is_foreign}
use Rattle.text.proofs.PlaceLaws.{foreign-rest, foreign-byte, foreign-column, foreign-line, foreign-start}
use Rattle.text.specs.Foreign.{Stays}

module _ (t : List ℕ) (p : TextLocation) where
  pub stays-foreign : is_foreign t p ≡ true → Stays t p
  stays-foreign h = record { nothing = rw (foreign-rest t p h); unmoved = rw (foreign-rest t p h) }

  -- a byte above the text's length
  pub stays-byte : length t < p.byte.0 → Stays t p
  stays-byte h = stays-foreign (foreign-byte t p h)

  -- a column above its byte
  pub stays-column : p.byte.0 < p.column.0 → Stays t p
  stays-column h = stays-foreign (foreign-column t p h)

  -- a line above its byte plus one
  pub stays-line : p.byte.0 + 1 < p.line.0 → Stays t p
  stays-line h = stays-foreign (foreign-line t p h)

  -- a start that is not its byte less its column
  pub stays-start : (p.start.0 ≡ p.byte.0 - p.column.0 → ⊥) → Stays t p
  stays-start h = stays-foreign (foreign-start t p h)
