-- What is told of a header or a picture, as include/xbm.h lists it: a result number, a report of ten numbers, a hotspot of two.
use Rattle.std.specs.Prelude.{ℕ, List, [], ◌∷◌, ℤ, pos, eqb, Option as Spot, Some, None, Result as Answer, Ok, Err}
use Rattle.std.proofs.Math.Option.{Option, none, some}
use Rattle.text.specs.declared.TextLocation.{TextLocation}
use Rattle.text.specs.Place.{pick, nowhere}
use Rattle.text.specs.Outcome.{Outcome, accepted, refused, unplaced, Ended, ending_at}
use Rattle.error.specs.declared.Refusal.{Refusal}
use Rattle.header.specs.declared.XbmHeaderData.{XbmHeaderData}
use Rattle.header.specs.Header.{Head}
use Rattle.report.specs.declared.Summary.{Summary}

abbrev pub spot_of : Option (ℤ × ℤ) → Spot (ℤ × ℤ)
spot_of none = None
spot_of (some s) = Some s

-- a header or picture accepted at a place, with a name of n bytes
abbrev pub acceptance : TextLocation → Head → ℕ → Summary
acceptance p h n = record { number = 0; place = p; width = h.width; height = h.height; name = n; hotspot = spot_of h.hot }

-- a refusal by its number: it tells no sides and no hotspot
abbrev pub refusal : ℕ → TextLocation → ℕ → Summary
refusal c p n = record { number = c; place = p; width = 0; height = 0; name = n; hotspot = None }

-- the place that is told, if one is
abbrev pub place_told : Spot TextLocation → TextLocation
place_told (Some p) = p
place_told None = nowhere

-- its number, and its place if it tells one
abbrev pub of_refusal : Refusal → ℕ → Summary
of_refusal r n = refusal r.number (place_told r.place) n

-- what is told of a header as the code has it, and the place that is told with it
abbrev pub of_answer : Answer (XbmHeaderData × TextLocation) Refusal → ℕ → Summary
of_answer (Ok r) n = record { number = 0; place = r.1; width = r.0.width; height = r.0.height; name = n; hotspot = r.0.hotspot }
of_answer (Err r) n = of_refusal r n

-- what is told of a header; an accepted one tells the place after its brace
abbrev pub of_header : Outcome (Ended Head) → ℕ → Summary
of_header (accepted (ending_at h p)) n = acceptance p h n
of_header (refused c p) n = refusal c p n
of_header (unplaced c) n = refusal c nowhere n

-- what is told of a picture; an accepted one tells no place
abbrev pub of_image : Outcome Head → ℕ → Summary
of_image (accepted h) n = acceptance nowhere h n
of_image (refused c p) n = refusal c p n
of_image (unplaced c) n = refusal c nowhere n

-- ---- as numbers

-- 1 if there is a hotspot
abbrev pub flag_of : Spot (ℤ × ℤ) → ℕ
flag_of None = 0
flag_of (Some s) = 1

-- x and y, or 0 and 0
abbrev pub coordinates : Spot (ℤ × ℤ) → List ℤ
coordinates None = pos 0 ∷ pos 0 ∷ []
coordinates (Some (x, y)) = x ∷ y ∷ []

-- a hotspot given as a flag and two numbers: none exactly if the flag is 0
abbrev pub hot_given : ℕ → ℤ → ℤ → Option (ℤ × ℤ)
hot_given has x y = pick (eqb has 0) none (some (x, y))

-- byte, line and column of the place, the sides, the name's length, the hotspot's flag, no data byte, the place's start, and 0
abbrev pub report_of : Summary → List ℕ
report_of s = s.place.byte.0 ∷ s.place.line.0 ∷ s.place.column.0 ∷ s.width ∷ s.height ∷ s.name ∷ flag_of s.hotspot ∷ 0 ∷ s.place.start.0 ∷ 0 ∷ []
