-- Two texts and the masks that they write, by computing the reader: the format is not empty.
use Rattle.std.specs.Prelude.{refl, ℕ, List, [], ◌∷◌, pos, negsuc}
use Rattle.std.proofs.Math.Option.{none, some}
use Rattle.text.specs.Ascii.{ascii}
use Rattle.text.specs.Place.{after, rest, place_of}
use Rattle.text.specs.Reader.{◌>>=◌}
use Rattle.text.specs.Leaf.{give, want, need, one, run, fork, eot}
use Rattle.lexical.specs.Lexical.{is_blank, is_loose, byte, skip, fixed, gap, line_end, leading}
use Rattle.lexical.specs.Token.{token}
use Rattle.hexadecimal.specs.Hex.{hex_of, hexv, hex_digit, is_mark, hex_start, hex_digits, hex_unit}
use Rattle.integer.specs.Decimal.{is_digit, digits_from}
use Rattle.symbol.specs.Symbol.{ends_with, before}
use Rattle.lines.specs.Lines.{positive, width_line, element, array_line}
use Rattle.header.specs.Header.{rest as rest_of, header}
use Rattle.body.specs.Data.{item, items, brace, closing, tail}
use Rattle.grammar.specs.Grammar.{Mask, Format}
use Rattle.grammar.specs.Devices.{body, front, text}
use Rattle.grammar.proofs.Exact.{exactly}

-- document 01's mask M
abbrev text_m : List ℕ
text_m = ascii "#define d_width 9\n#define d_height 1\nstatic char d_bits[] = {0x01,0x00};\n"

abbrev mask_m : Mask
mask_m = record { name = ascii "d"; width = 9; height = 1; hot = none; bytes = 1 ∷ 0 ∷ [] }

pub writes-M : Format 256 mask_m text_m
unfolding after rest ◌>>=◌ give want need one run fork eot is_blank is_loose byte skip fixed gap line_end leading token hex_of hexv hex_digit is_mark hex_start hex_digits hex_unit is_digit digits_from rest_of ends_with before positive width_line element array_line header item items brace closing tail body front text
writes-M = (exactly 256 mask_m text_m).0 (place_of 73 4 0 73, refl)

-- an empty name, leading lines, a hotspot outside the picture, blanks, either case, a comma at the end
abbrev text_x : List ℕ
text_x = ascii "/* x */\n\n#define _width 3 \n#define\t_height  2\n#define _x_hot -0\n#define _y_hot -2147483648\nstatic unsigned char _bits[] = { 0Xa1\n, 0x0F , } ;"

abbrev mask_x : Mask
mask_x = record { name = []; width = 3; height = 2; hot = some (pos 0, negsuc 2147483647); bytes = 161 ∷ 15 ∷ [] }

pub writes-X : Format 6 mask_x text_x
unfolding after rest ◌>>=◌ give want need one run fork eot is_blank is_loose byte skip fixed gap line_end leading token hex_of hexv hex_digit is_mark hex_start hex_digits hex_unit is_digit digits_from rest_of ends_with before positive width_line element array_line header item items brace closing tail body front text
writes-X = (exactly 6 mask_x text_x).0 (_, refl)
