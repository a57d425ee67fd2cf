-- The word that is printed of a difference.
use Rattle.std.specs.Prelude.{ℕ, List, Option, Some, codes}
use Rattle.stored.specs.declared.Difference.{Difference}
use Rattle.stored.specs.declared.Difference.TheVariants.{Number, Place, Sides, Hotspot, Name, Cells}

abbrev pub words_of : Difference → Option (List ℕ)
words_of Number = Some (codes "number")
words_of Place = Some (codes "place")
words_of Sides = Some (codes "sides")
words_of Hotspot = Some (codes "hotspot")
words_of Name = Some (codes "name")
words_of Cells = Some (codes "cells")
