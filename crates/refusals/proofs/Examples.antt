-- A row for each number of document 01's table that no mask has, computed as the masks are.
use Rattle.std.specs.Prelude.{◌≡◌, refl, ℕ, List, [], ◌∷◌, ◌++◌, map, replicate}
use Prim.Native.String.{String}
use Rattle.text.specs.Ascii.{ascii}
use Rattle.text.specs.Place.{after, rest}
use Rattle.text.specs.Reader.{◌>>=◌}
use Rattle.text.specs.Leaf.{give, want, need, one, run, fork, eot}
use Rattle.lexical.specs.Lexical.{is_blank, is_loose, byte, skip, fixed, gap, line_end, leading}
use Rattle.lexical.specs.Token.{token, span}
use Rattle.hexadecimal.specs.Hex.{hex_of, hexv, hex_digit, is_mark, hex_start, hex_digits, hex_unit}
use Rattle.integer.specs.Decimal.{is_digit, digits_from}
use Rattle.symbol.specs.Symbol.{ends_with, before, opening, stored}
use Rattle.lines.specs.Lines.{positive, width_line, element, array_line}
use Rattle.header.specs.Header.{rest as rest_of, header}
use Rattle.body.specs.Data.{item, items, brace, closing, tail, trailer, log_of}
use Rattle.cells.specs.Cells.{cell, painted}
use Rattle.rows.specs.Rows.{whole}
use Rattle.image.specs.Reading.{picture, reading}
use Rattle.print.specs.Decimal.{digits}
use Rattle.print.specs.Output.{joined}
use Rattle.image.specs.Limited.{after_header, limited, within}
use Rattle.listing.specs.Listing.{listed_within}
use Rattle.claims.specs.Masks.{Row, given, wanted}

-- the lines after the width line; all nine cells lent as 7
abbrev row : String → String → List ℕ → Row
row rest prints cells = record { text = ascii "#define d_width 9\n" ++ ascii rest; lent = replicate 9 7; prints = prints; stored = "d_width"; cells = cells }

abbrev header_row : String → String → Row
header_row rest prints = row rest prints (replicate 9 7)

-- a text of its own
abbrev first_row : String → String → String → Row
first_row text prints stored = record { text = ascii text; lent = replicate 9 7; prints = prints; stored = stored; cells = replicate 9 7 }

abbrev inked : List ℕ
inked = 0 ∷ replicate 8 255

abbrev table : List Row
table =
    first_row "#include\n" "refused 1 byte=2,line=1:col=2,start=0\n" ""
    ∷ first_row "#define\n" "refused 1 byte=8,line=2:col=0,start=8\n" ""
    ∷ first_row "#define d_wide 9\n" "refused 1 byte=14,line=1:col=14,start=0\n" "d_wide"
    ∷ first_row "\n\nx#\n#define d_width\t9" "refused 1 byte=22,line=4:col=17,start=5\n" "d_width"
    ∷ header_row "#define d_height x\n" "refused 123\n"
    ∷ header_row "#define d_height 0\n" "refused 22\n"
    ∷ header_row "#define d_height 00\n" "refused 122\n"
    ∷ header_row "#define d_height 1\nchar" "refused 5 byte=38,line=3:col=1,start=37\n"
    ∷ header_row "#define d_height 1\n" "refused 5 byte=37,line=3:col=0,start=37\n"
    ∷ header_row "#define d_height 1\n#define d_y_hot 1\n" "refused 3 byte=48,line=3:col=11,start=37\n"
    ∷ header_row "#define d_height 1\n#define d_x_hot x\n" "refused 133\n"
    ∷ header_row "#define d_height 1\n#define d_x_hot 3\nstatic" "refused 4 byte=56,line=4:col=1,start=55\n"
    ∷ header_row "#define d_height 1\n#define d_x_hot 3\n#define d_y_hot 2147483648\n" "refused 144\n"
    ∷ header_row "#define d_height 1\nstatic int" "refused 5 byte=45,line=3:col=8,start=37\n"
    ∷ row "#define d_height 1\nstatic char d_bits[] = {0x01,0x00,0x00};\n" "refused 7 byte=72,line=3:col=35,start=37\n" inked
    ∷ row "#define d_height 1\nstatic char d_bits[] = {0x01,0x00z" "refused 7 byte=71,line=3:col=34,start=37\n" inked
    ∷ row "#define d_height 1\nstatic char d_bits[] = {0x01,0x00};\nz" "refused 8 byte=74,line=4:col=1,start=73\n" inked
    ∷ row "#define d_height 1\nstatic char d_bits[] = {0x01,0x" "refused 6 byte=68,line=3:col=31,start=37\n" (0 ∷ replicate 7 255 ++ (7 ∷ []))
    ∷ header_row "#define d_height 7282\nstatic char d_bits[] = {" "refused 42\n"
    ∷ []

pub rows : map given table ≡ map wanted table
unfolding after rest ◌>>=◌ give want need one run fork eot is_blank is_loose byte skip fixed gap line_end leading token span hex_of hexv hex_digit is_mark hex_start hex_digits hex_unit is_digit digits_from rest_of ends_with before positive width_line element array_line opening header stored item items brace closing tail trailer log_of cell painted whole picture reading digits joined after_header limited within listed_within
rows = refl
