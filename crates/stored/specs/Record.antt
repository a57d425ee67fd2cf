-- A record of the stored answers, as docs/REPLAY.md tells it: the numbers in its bytes; and what differs first between two answers.
use Rattle.std.specs.Prelude.{ℕ, ◌+◌, ◌*◌, List, slice_index, Bool, nat_le, ◌==◌, ◌&&◌, if◌then◌else◌, Result, Ok, Err}
use Rattle.stored.specs.declared.Position.{Position}
use Rattle.stored.specs.declared.Size.{Size}
use Rattle.stored.specs.declared.Spot.{Spot}
use Rattle.stored.specs.declared.Symbol.{Symbol}
use Rattle.stored.specs.declared.Told.{Told}
use Rattle.stored.specs.declared.Record.{Record}
use Rattle.stored.specs.declared.Difference.{Difference}
use Rattle.stored.specs.declared.Difference.TheVariants.{Number, Place, Sides, Hotspot, Name, Cells}

-- the bytes of a record
abbrev record_size : ℕ
record_size = 60

-- the byte at i, and 0 past the end
abbrev pub byte_at : List ℕ → ℕ → ℕ
byte_at w i = slice_index w i

-- the number in the four bytes from i on, the least first, and 0 past a record's end
abbrev pub number_at : List ℕ → ℕ → ℕ
number_at w i =
    if nat_le record_size i then 0
    else byte_at w i + byte_at w (i + 1) * 256 + (byte_at w (i + 2) + byte_at w (i + 3) * 256) * 65536

-- the original's answer, and all of a record
abbrev pub told_in : List ℕ → Told
told_in w = record {
  number = number_at w 12;
  place = record { byte = number_at w 16; line = number_at w 20; column = number_at w 24 };
  sides = record { width = number_at w 28; height = number_at w 32 };
  hotspot = record { count = number_at w 40; x = number_at w 44; y = number_at w 48 };
  name = record { length = number_at w 36; sum = number_at w 52 };
  pixel_sum = number_at w 56;
}

abbrev pub record_in : List ℕ → Record
record_in w = record { brought = number_at w 0; length = number_at w 4; cells = number_at w 8; told = told_in w }

-- our number counts as the original's: its 11 to 14 are four of ours each, any other is itself
abbrev pub counts_as : ℕ → ℕ → Bool
counts_as m n = if nat_le 11 n && nat_le n 14 then nat_le (n * 10 + 1) m && nat_le m (n * 10 + 4) else m == n

-- two parts are the same in each of their numbers
abbrev pub same_place : Position → Position → Bool
same_place a b = (a.byte == b.byte) && (a.line == b.line) && (a.column == b.column)

abbrev pub same_sides : Size → Size → Bool
same_sides a b = (a.width == b.width) && (a.height == b.height)

abbrev pub same_hotspot : Spot → Spot → Bool
same_hotspot a b = (a.count == b.count) && (a.x == b.x) && (a.y == b.y)

abbrev pub same_name : Symbol → Symbol → Bool
same_name a b = (a.length == b.length) && (a.sum == b.sum)

-- d where two parts are not the same, and what follows where they are
abbrev pub unless : Bool → Difference → Result (Unit {0}) Difference → Result (Unit {0}) Difference
unless same d next = if same then next else Err d

-- what differs first between our answer and the original's
abbrev pub verdict_on : Told → Told → Result (Unit {0}) Difference
verdict_on a b =
    unless (counts_as a.number b.number) Number
    (unless (same_place a.place b.place) Place
    (unless (same_sides a.sides b.sides) Sides
    (unless (same_hotspot a.hotspot b.hotspot) Hotspot
    (unless (same_name a.name b.name) Name
    (unless (a.pixel_sum == b.pixel_sum) Cells
    (Ok tt))))))
