-- The theorems about what specs/Calls.antt defines.
use Rattle.std.specs.Prelude.{ℕ, ◌≡◌, refl, List, [], ◌∷◌, ◌++◌, map, take, replicate, ℤ, pos, neg_ℤ}
use Prim.Native.String.{String}
use Rattle.text.specs.Ascii.{ascii}
use Rattle.text.specs.Place.{rest, after}
use Rattle.text.specs.Reader.{◌>>=◌}
use Rattle.text.specs.Leaf.{give, want, need, one, run, fork, eot}
use Rattle.lexical.specs.Lexical.{is_blank, is_loose, byte, skip, fixed, gap, line_end, leading}
use Rattle.lexical.specs.Token.{token, span}
use Rattle.hexadecimal.specs.Hex.{hex_of, hexv, hex_digit, is_mark, hex_start, hex_digits, hex_unit}
use Rattle.integer.specs.Decimal.{is_digit, digits_from}
use Rattle.symbol.specs.Symbol.{ends_with, before}
use Rattle.lines.specs.Lines.{positive, width_line, element, array_line}
use Rattle.header.specs.Header.{rest as rest_lines, header}
use Rattle.body.specs.Data.{item, items, brace, closing, tail, trailer}
use Rattle.rows.specs.Rows.{whole}
use Rattle.image.specs.Reading.{picture, reading}
use Rattle.report.specs.declared.Summary.{Summary}
use Rattle.xbm_c.specs.Told.{Tells, header_told, image_told}
use Rattle.xbm_c.specs.Calls.{Numbers, told}

-- a call that tells s, as its contract says, hands back these numbers
pub tells-told : (s : Summary) (report : List ℕ) (hotspot : List ℤ) (r : ℕ) → Tells s report hotspot r → record { result = r; report = report; hotspot = hotspot } ≡ told s
tells-told s report hotspot r t = rw (t.number, t.report, t.hotspot)

-- ---- texts: mask M with other tokens for its sides, and with more after its height line; a mask with a name of four bytes and a hotspot

abbrev sides : String → String → List ℕ
sides w h = ascii "#define d_width " ++ ascii w ++ ascii "\n#define d_height " ++ ascii h ++ ascii "\n"

abbrev array : List ℕ
array = ascii "static char d_bits[] = {0x01,0x00};\n"

abbrev M : List ℕ
M = sides "9" "1" ++ array

-- M with both hotspot lines
abbrev hot : String → String → List ℕ
hot x y = sides "9" "1" ++ ascii "#define d_x_hot " ++ ascii x ++ ascii "\n#define d_y_hot " ++ ascii y ++ ascii "\n" ++ array

abbrev spot : List ℕ
spot = ascii "#define spot_width 9\n#define spot_height 2\n#define spot_x_hot 3\n#define spot_y_hot -40\nstatic unsigned char spot_bits[] = {0x01, 0x00, 0xff, 0x01,};\n"

-- ---- rows

-- a text and the cells lent (a header's call has none); the numbers
record Row : Type 0 where
  text : List ℕ
  cells : ℕ
  answer : Numbers

-- accepted: byte, line, column and start, the sides, the name's length, with no hotspot or with one
abbrev plain : List ℕ → ℕ → ℕ → ℕ → ℕ → ℕ → ℕ → ℕ → ℕ → Row
plain t n byte line column start w h name = record { text = t; cells = n; answer = record { result = 0; report = byte ∷ line ∷ column ∷ w ∷ h ∷ name ∷ 0 ∷ 0 ∷ start ∷ 0 ∷ []; hotspot = pos 0 ∷ pos 0 ∷ [] } }

abbrev spotted : List ℕ → ℕ → ℕ → ℕ → ℕ → ℕ → ℕ → ℕ → ℕ → ℤ → ℤ → Row
spotted t n byte line column start w h name x y = record { text = t; cells = n; answer = record { result = 0; report = byte ∷ line ∷ column ∷ w ∷ h ∷ name ∷ 1 ∷ 0 ∷ start ∷ 0 ∷ []; hotspot = x ∷ y ∷ [] } }

-- refused with a place, and without: no sides, no hotspot
abbrev at : List ℕ → ℕ → ℕ → ℕ → ℕ → ℕ → ℕ → ℕ → Row
at t n c byte line column start name = record { text = t; cells = n; answer = record { result = c; report = byte ∷ line ∷ column ∷ 0 ∷ 0 ∷ name ∷ 0 ∷ 0 ∷ start ∷ 0 ∷ []; hotspot = pos 0 ∷ pos 0 ∷ [] } }

abbrev bare : List ℕ → ℕ → ℕ → ℕ → Row
bare t n c name = at t n c 0 0 0 0 name

abbrev names : List ℕ
names = replicate 256 0

-- ---- the header's call

abbrev headers : List Row
headers =
    plain M 0 61 3 24 37 9 1 1
    ∷ spotted spot 0 123 5 36 87 9 2 4 (pos 3) (neg_ℤ (pos 40))
    ∷ spotted (hot "-2147483648" "-0") 0 108 5 24 84 9 1 1 (neg_ℤ (pos 2147483648)) (pos 0)
    ∷ plain (sides "4294967295" "1" ++ array) 0 70 3 24 46 4294967295 1 1
    ∷ at [] 0 1 0 1 0 0 0
    ∷ at (take 17 M) 0 1 17 1 17 0 0
    ∷ at (sides "0 z" "1" ++ array) 0 1 19 1 19 0 0
    ∷ at (sides "123456789012" "1" ++ array) 0 1 27 1 27 0 0
    ∷ at (take 18 M) 0 2 18 2 0 18 0
    ∷ at (ascii "#define d_width 9\n\n") 0 2 19 3 0 19 0
    ∷ at (sides "9" "1" ++ ascii "#define d_y_hot") 0 3 48 3 11 37 0
    ∷ at (sides "9" "1" ++ ascii "#define d_x_hot 0\n" ++ array) 0 4 56 4 1 55 0
    ∷ at (sides "9" "1" ++ ascii "\n") 0 5 38 4 0 38 0
    ∷ at (take 60 M) 0 5 60 3 23 37 0
    ∷ bare (sides "" "1" ++ array) 0 111 0
    ∷ bare (sides "014z" "1" ++ array) 0 112 0
    ∷ bare (sides "-" "1" ++ array) 0 113 0
    ∷ bare (sides "4294967296" "1" ++ array) 0 114 0
    ∷ bare (sides "9" "" ++ array) 0 121 0
    ∷ bare (sides "9" "014" ++ array) 0 122 0
    ∷ bare (sides "9" "9999999999z" ++ array) 0 123 0
    ∷ bare (sides "9" "99999999999" ++ array) 0 124 0
    ∷ bare (hot "-" "0") 0 131 0
    ∷ bare (hot "-00" "0") 0 132 0
    ∷ bare (hot "+1" "0") 0 133 0
    ∷ bare (hot "2147483648" "0") 0 134 0
    ∷ bare (hot "0" "") 0 141 0
    ∷ bare (hot "0" "-0z") 0 142 0
    ∷ bare (hot "0" "--1") 0 143 0
    ∷ bare (hot "0" "-2147483649") 0 144 0
    ∷ bare (sides "0" "1" ++ array) 0 21 0
    ∷ bare (sides "9" "0" ++ array) 0 22 0
    ∷ []

-- the same by the definitions
abbrev header_says : Row → Numbers
header_says r = told (header_told r.text names)

pub header-table : map header_says headers ≡ map (λ r. r.answer) headers
unfolding header_told header width_line rest_lines element array_line positive before ends_with leading fixed gap line_end token span skip byte is_blank is_loose digits_from is_digit give want need one run fork rest after ◌>>=◌
header-table = refl

-- ---- the picture's call: accepted it tells no place, and a refusal after the header keeps the name

abbrev pictures : List Row
pictures =
    plain M 9 0 0 0 0 9 1 1
    ∷ plain M 17 0 0 0 0 9 1 1
    ∷ spotted spot 18 0 0 0 0 9 2 4 (pos 3) (neg_ℤ (pos 40))
    ∷ at (take 17 M) 9 1 17 1 17 0 0
    ∷ at (take 18 M) 9 2 18 2 0 18 0
    ∷ at (take 65 M) 9 6 65 3 28 37 1
    ∷ at (take 71 M) 9 7 71 3 34 37 1
    ∷ at (take 146 spot) 18 7 146 5 59 87 4
    ∷ at (M ++ ascii "x") 9 8 74 4 1 73 1
    ∷ bare (sides "014" "1" ++ array) 9 112 0
    ∷ bare (hot "0" "-") 9 141 0
    ∷ bare (sides "0" "1" ++ array) 9 21 0
    ∷ bare (sides "9" "0" ++ array) 9 22 0
    ∷ bare M 8 31 1
    ∷ bare M 18 31 1
    ∷ bare spot 9 31 4
    ∷ []

-- the same by the definitions; the cells are lent as 7
abbrev image_says : Row → Numbers
image_says r = told (image_told r.text names (replicate r.cells 7))

pub image-table : map image_says pictures ≡ map (λ r. r.answer) pictures
unfolding image_told reading picture whole items item trailer closing brace tail hex_unit hex_digits hex_start hex_digit hexv hex_of is_mark eot header width_line rest_lines element array_line positive before ends_with leading fixed gap line_end token span skip byte is_blank is_loose digits_from is_digit give want need one run fork rest after ◌>>=◌
image-table = refl
