-- Worked examples of what is told of a header and of a picture, every number written out as include/xbm.h lists it: the rows of a table, by computing.
-- Of each two entries but the two that are always 0 some row has different numbers in them, so none can stand for another, also where definition and code agree.
use Rattle.std.specs.Prelude.{ℕ, ◌≡◌, refl, List, [], ◌∷◌, map, ℤ, pos, neg_ℤ}
use Rattle.std.proofs.Math.Option.{none, some}
use Rattle.text.specs.Ascii.{ascii}
use Rattle.text.specs.Place.{place_of}
use Rattle.text.specs.Outcome.{accepted, refused, unplaced, ending_at}
use Rattle.header.specs.Header.{Head}
use Rattle.report.specs.declared.Summary.{Summary}
use Rattle.report.specs.Report.{of_header, of_image, report_of, coordinates}

-- what a header says of two masks: one with a hotspot, one without
abbrev spot : Head
spot = record { name = ascii "spot"; width = 9; height = 2; hot = some (pos 3, neg_ℤ (pos 40)) }

abbrev plain : Head
plain = record { name = ascii "d"; width = 7; height = 11; hot = none }

-- what is told; its number, report and hotspot
record Row : Type 0 where
  told : Summary
  answer : ℕ × List ℕ × List ℤ

abbrev row : Summary → ℕ → List ℕ → List ℤ → Row
row s n report hotspot = record { told = s; answer = (n, report, hotspot) }

abbrev rows : List Row
rows =
    row (of_header (accepted (ending_at spot (place_of 123 5 36 87))) 4) 0 (123 ∷ 5 ∷ 36 ∷ 9 ∷ 2 ∷ 4 ∷ 1 ∷ 0 ∷ 87 ∷ 0 ∷ []) (pos 3 ∷ neg_ℤ (pos 40) ∷ [])
    ∷ row (of_header (accepted (ending_at plain (place_of 61 3 24 37))) 1) 0 (61 ∷ 3 ∷ 24 ∷ 7 ∷ 11 ∷ 1 ∷ 0 ∷ 0 ∷ 37 ∷ 0 ∷ []) (pos 0 ∷ pos 0 ∷ [])
    ∷ row (of_header (refused 5 (place_of 60 3 23 37)) 0) 5 (60 ∷ 3 ∷ 23 ∷ 0 ∷ 0 ∷ 0 ∷ 0 ∷ 0 ∷ 37 ∷ 0 ∷ []) (pos 0 ∷ pos 0 ∷ [])
    ∷ row (of_header (unplaced 111) 0) 111 (0 ∷ 0 ∷ 0 ∷ 0 ∷ 0 ∷ 0 ∷ 0 ∷ 0 ∷ 0 ∷ 0 ∷ []) (pos 0 ∷ pos 0 ∷ [])
    -- an accepted picture tells no place, and a refusal after the header keeps the name
    ∷ row (of_image (accepted spot) 4) 0 (0 ∷ 0 ∷ 0 ∷ 9 ∷ 2 ∷ 4 ∷ 1 ∷ 0 ∷ 0 ∷ 0 ∷ []) (pos 3 ∷ neg_ℤ (pos 40) ∷ [])
    ∷ row (of_image (accepted plain) 1) 0 (0 ∷ 0 ∷ 0 ∷ 7 ∷ 11 ∷ 1 ∷ 0 ∷ 0 ∷ 0 ∷ 0 ∷ []) (pos 0 ∷ pos 0 ∷ [])
    ∷ row (of_image (refused 7 (place_of 146 5 59 87)) 4) 7 (146 ∷ 5 ∷ 59 ∷ 0 ∷ 0 ∷ 4 ∷ 0 ∷ 0 ∷ 87 ∷ 0 ∷ []) (pos 0 ∷ pos 0 ∷ [])
    ∷ row (of_image (unplaced 31) 4) 31 (0 ∷ 0 ∷ 0 ∷ 0 ∷ 0 ∷ 4 ∷ 0 ∷ 0 ∷ 0 ∷ 0 ∷ []) (pos 0 ∷ pos 0 ∷ [])
    ∷ []

-- the same by the definitions
abbrev says : Row → ℕ × List ℕ × List ℤ
says r = (r.told.number, report_of r.told, coordinates r.told.hotspot)

pub report-table : map says rows ≡ map (λ r. r.answer) rows
report-table = refl
