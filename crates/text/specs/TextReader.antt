-- A text reader: what its calls answer, and the reader after them.
use Rattle.std.specs.Prelude.{ℕ, List, [], ◌∷◌, Bool, Option}
use Rattle.std.specs.List.{between}
use Rattle.text.specs.declared.TextLocation.{TextLocation}
use Rattle.text.specs.declared.TextReader.{TextReader}
use Rattle.text.specs.Place.{byte_of, rest, after, peeked_at, is_foreign, reaches_to, has_left, along_line, past_line, past_byte}

-- the place after the first of the bytes that remain; at the end, and at a foreign place, none do
abbrev pub onward : List ℕ → TextLocation → TextLocation
onward [] p = p
onward (b ∷ l) p = after b p

abbrev pub onward_at : List ℕ → TextLocation → TextLocation
onward_at t p = onward (rest t p) p

-- the tests of a reader's place
abbrev pub foreign : TextReader → Bool
foreign r = is_foreign r.text.now r.location

abbrev pub reaching : ℕ → TextReader → Bool
reaching n r = reaches_to r.text.now r.location n

abbrev pub left : ℕ → TextReader → Bool
left n r = has_left r.text.now r.location n

-- the byte that a reader stands before
abbrev pub next_of : TextReader → Option ℕ
next_of r = peeked_at r.text.now r.location

-- a reader of the same text at another place
abbrev pub moved_to : TextLocation → TextReader → TextReader
moved_to p r = record { text = r.text; location = p }

-- after a byte was taken
abbrev pub moved_on : TextReader → TextReader
moved_on r = moved_to (onward_at r.text.now r.location) r

-- past a byte, past n bytes of a line, past n more bytes of a line and its newline
abbrev pub passed : ℕ → TextReader → TextReader
passed b r = moved_to (past_byte r.location b) r

abbrev pub passed_along : ℕ → TextReader → TextReader
passed_along n r = moved_to (along_line r.location n) r

abbrev pub passed_line : ℕ → TextReader → TextReader
passed_line n r = moved_to (past_line r.location n) r

-- the bytes from a place up to where a reader stands
abbrev pub since : TextLocation → TextReader → List ℕ
since p r = between (byte_of p) (byte_of r.location) r.text.now
