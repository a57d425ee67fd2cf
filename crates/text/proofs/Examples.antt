-- Worked examples, computed from the definitions: the rows of one table, by one claim. The text is mask M's first line.
use Rattle.std.specs.Prelude.{ℕ, ◌≡◌, refl, List, [], ◌∷◌, map, Option, Some, None}
use Rattle.text.specs.Ascii.{ascii}
use Rattle.text.specs.declared.TextLocation.{TextLocation}
use Rattle.text.specs.Place.{start, place_of, rest, after, peeked_at}
use Rattle.text.specs.TextReader.{onward_at}

abbrev line : List ℕ
line = ascii "#define d_width 9\n"

-- a place; what is there, and the place after it
record Row : Type 0 where
  place : TextLocation
  answer : Option ℕ
  next : TextLocation

abbrev row : TextLocation → Option ℕ → TextLocation → Row
row p a q = record { place = p; answer = a; next = q }

abbrev rows : List Row
rows =
    -- the first two bytes, `#` and `d`
    row start (Some 35) (place_of 1 1 1 0)
    ∷ row (place_of 1 1 1 0) (Some 100) (place_of 2 1 2 0)
    -- the newline starts a line, at column 0 and byte 18
    ∷ row (place_of 17 1 17 0) (Some 10) (place_of 18 2 0 18)
    -- the end
    ∷ row (place_of 18 2 0 18) None (place_of 18 2 0 18)
    -- foreign: a byte past the end, a column above its byte, a line above its byte plus one, a start that is not its byte less its column
    ∷ row (place_of 19 2 1 18) None (place_of 19 2 1 18)
    ∷ row (place_of 3 1 4 0) None (place_of 3 1 4 0)
    ∷ row (place_of 3 5 0 3) None (place_of 3 5 0 3)
    ∷ row (place_of 3 1 1 1) None (place_of 3 1 1 1)
    ∷ row (place_of 3 1 1 3) None (place_of 3 1 1 3)
    ∷ row (place_of 5 1 0 0) None (place_of 5 1 0 0)
    ∷ row (place_of 5 1 5 18446744073709551615) None (place_of 5 1 5 18446744073709551615)
    ∷ []

abbrev met : Row → Row
met r = row r.place (peeked_at line r.place) (onward_at line r.place)

pub table : map met rows ≡ rows
unfolding rest after
table = refl
