-- THE CLAIMS ON THE PROGRAM: what it prints for document 01's masks, and of every accepted text and its cuts.
-- To believe them, read Listing (what is printed of a text, with the limits) and what it names, beside what Claims
-- names, the records of specs/Program, and the statements of this file. Every proof below is a citation or a computation.
use Rattle.std.specs.Prelude.{◌≡◌, refl, ℕ, ◌*◌, ◌≤◌, List, map, length, ℤ}
use Rattle.std.proofs.Math.Option.{Option}
use Rattle.text.specs.Place.{after, rest}
use Rattle.text.specs.Reader.{◌>>=◌}
use Rattle.text.specs.Leaf.{give, want, need, one, run, fork, eot}
use Rattle.text.specs.Outcome.{accepted}
use Rattle.lexical.specs.Lexical.{is_blank, is_loose, byte, skip, fixed, gap, line_end, leading}
use Rattle.lexical.specs.Token.{token, span}
use Rattle.hexadecimal.specs.Hex.{hex_of, hexv, hex_digit, is_mark, hex_start, hex_digits, hex_unit}
use Rattle.integer.specs.Decimal.{is_digit, digits_from}
use Rattle.symbol.specs.Symbol.{ends_with, before, opening, stored}
use Rattle.lines.specs.Lines.{positive, width_line, element, array_line}
use Rattle.header.specs.Header.{Head, rest as rest_of, header}
use Rattle.body.specs.Data.{item, items, brace, closing, tail, trailer, log_of}
use Rattle.cells.specs.Cells.{cell, painted}
use Rattle.rows.specs.Rows.{whole}
use Rattle.image.specs.Reading.{picture, reading}
use Rattle.print.specs.Decimal.{digits}
use Rattle.print.specs.Output.{joined}
use Rattle.image.specs.Limited.{after_header, limited, within}
use Rattle.printing.specs.Printed.{hot_text}
use Rattle.listing.specs.Listing.{listed_within, listed, listing}
use Rattle.grammar.specs.Grammar.{Mask, Format}
use Rattle.claims.specs.Terms.{Lines, Possible, Same}
use Rattle.listing.proofs.Sizes
use Rattle.claims.proofs.Listings
use Rattle.claims.specs.Masks.{table, given, wanted}
use Rattle.claims.proofs.Limits as Limit
use Rattle.claims.proofs.Prints
use Rattle.claims.proofs.Distinct
use Rattle.claims.specs.Program.{Shown, Limits}

-- 1. MASKS. Each of document 01's masks, as a row of the table: what is printed, the name buffer and the cells, by computing.
pub masks : map given table ≡ map wanted table
unfolding after rest ◌>>=◌ give want need one run fork eot is_blank is_loose byte skip fixed gap line_end leading token span hex_of hexv hex_digit is_mark hex_start hex_digits hex_unit is_digit digits_from rest_of ends_with before positive width_line element array_line opening header stored item items brace closing tail trailer log_of cell painted whole picture reading digits joined after_header limited within listed_within
masks = refl

-- 2. LISTINGS. A text that writes m, that the limits let through, with cells enough for the picture; and its first n bytes.
pub lists : (text name cells : List ℕ) (m : Mask) (n : ℕ) → Format (length name) m text
    → length text ≤ 65536 → m.width * m.height ≤ 65536 → m.width * m.height ≤ length cells → n ≤ length text
    → Shown text name cells m n
lists t name cells m n f short small room h = record {
  lines = Listings.whole-lines t name cells m f short small room;
  semicolon = Listings.semicolon t name cells m f short small;
  last = Listings.last_one t name cells m f short small;
  early = Listings.early t name cells m f short small room n h;
  late = Listings.late t name cells m f short small room n h;
}

-- 3. LIMITS. Of every text, name buffer and cells.
pub limits : (text name cells : List ℕ) → Limits text name cells (listed text name cells)
limits t name cells = record {
  long = Limit.too_long t name cells;
  large = Limit.too_large t name cells;
  unread = Limit.long-buffers t name cells;
  unpictured = Limit.large-buffers t name cells;
  read = Limit.read-so t name cells;
  headless = Limit.headless-so t name cells;
}

-- 4. LINES. What is printed of any text is a word of the lines of its answer: words as quoted, each number in the grammar's decimal (no leading zero),
-- only a negative one with `-` in front, x before y, `none` for no hotspot.
pub prints : (text name cells : List ℕ) → Lines (listed text name cells).told (listed text name cells).ink (listing text name cells)
prints = Prints.prints

-- 5. SIZE. A listing has at most 133 bytes, so that an output of as many holds every one whole.
pub short : (text name cells : List ℕ) → length (listing text name cells) ≤ 133
short = Sizes.listing-short

-- 6. DISTINCT. No two hotspots that a text can have print alike, an absent one among them.
pub distinct : (a b : Option (ℤ × ℤ)) → Possible a → Possible b → hot_text a ≡ hot_text b → a ≡ b
distinct = Distinct.same-hotspot

-- And two accepted texts that list alike, whatever is lent with each, have the same sides, hotspot and ink.
pub same-listed : (text name cells text' name' cells' : List ℕ) (h g : Head)
    → (listed text name cells).told ≡ accepted h → (listed text' name' cells').told ≡ accepted g → listing text name cells ≡ listing text' name' cells'
    → Same h g (listed text name cells).ink (listed text' name' cells').ink
same-listed = Distinct.same-told
