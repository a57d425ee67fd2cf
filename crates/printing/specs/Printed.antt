-- What is printed of an answer, by document 01's program.
use Rattle.std.specs.Prelude.{ℕ, List, [], ◌∷◌, ℤ}
use Rattle.std.proofs.Math.Option.{Option, none, some}
use Rattle.text.specs.Ascii.{ascii}
use Rattle.text.specs.declared.TextLocation.{TextLocation}
use Rattle.text.specs.Outcome.{Outcome, accepted, refused, unplaced}
use Rattle.header.specs.Header.{Head}
use Rattle.print.specs.Output.{joined}
use Rattle.print.specs.Decimal.{decimal, signed}

-- a word and a number
abbrev pub field_text : List ℕ → ℕ → List ℕ
field_text w n = joined (w ∷ decimal n ∷ [])

-- two numbers, a space between
abbrev pub pair_text : ℤ → ℤ → List ℕ
pair_text x y = joined (signed x ∷ ascii " " ∷ signed y ∷ [])

-- a hotspot; `none` where its lines are absent
abbrev pub hot_text : Option (ℤ × ℤ) → List ℕ
hot_text none = ascii "none"
hot_text (some (x, y)) = pair_text x y

-- the four lines of an accepted mask: width, height; hotspot; ink
abbrev pub sides_text : ℕ → ℕ → List ℕ
sides_text w h = joined (field_text (ascii "width ") w ∷ field_text (ascii "\nheight ") h ∷ [])

abbrev pub hotspot_text : Option (ℤ × ℤ) → List ℕ
hotspot_text o = joined (ascii "\nhotspot " ∷ hot_text o ∷ [])

abbrev pub ink_text : ℕ → List ℕ
ink_text k = joined (field_text (ascii "\nink ") k ∷ ascii "\n" ∷ [])

abbrev pub accepted_text : Head → ℕ → List ℕ
accepted_text h k = joined (sides_text h.width h.height ∷ hotspot_text h.hot ∷ ink_text k ∷ [])

-- a place, as `byte=71,line=3:col=34,start=37`
abbrev pub place_text : TextLocation → List ℕ
place_text p = joined (field_text (ascii " byte=") p.byte.0 ∷ field_text (ascii ",line=") p.line.0 ∷ field_text (ascii ":col=") p.column.0 ∷ field_text (ascii ",start=") p.start.0 ∷ [])

abbrev pub printed : Outcome Head → ℕ → List ℕ
printed (accepted h) k = accepted_text h k
printed (refused c p) k = joined (field_text (ascii "refused ") c ∷ place_text p ∷ ascii "\n" ∷ [])
printed (unplaced c) k = joined (field_text (ascii "refused ") c ∷ ascii "\n" ∷ [])
