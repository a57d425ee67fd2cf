-- Worked examples of the calls that read a header or a picture, in numbers: a result, the report's ten entries and the hotspot's two.
-- The rows of two tables, by computing. Of each two entries but the two that are always 0 some row has different numbers in them, so none can stand for another.
use Rattle.std.specs.Prelude.{ℕ, List, ℤ}
use Rattle.report.specs.declared.Summary.{Summary}
use Rattle.report.specs.Report.{report_of, coordinates}

-- what is handed back: a result, a report, a hotspot
pub record Numbers : Type 0 where
  pub result : ℕ
  pub report : List ℕ
  pub hotspot : List ℤ

abbrev pub told : Summary → Numbers
told s = record { result = s.number; report = report_of s; hotspot = coordinates s.hotspot }
