-- Worked examples, computed from the definitions: the rows of one table, by one claim.
use Rattle.std.specs.Prelude.{ℕ, ◌≡◌, refl, List, [], ◌∷◌, ◌++◌, map, pos, neg_ℤ}
use Prim.Native.String.{String}
use Rattle.std.proofs.Math.Option.{some}
use Rattle.text.specs.Ascii.{ascii}
use Rattle.text.specs.Place.{rest, after, place_of, start}
use Rattle.text.specs.Reader.{◌>>=◌}
use Rattle.text.specs.Outcome.{Outcome, accepted, refused, unplaced, Ended, ending_at, shown}
use Rattle.text.specs.Leaf.{give, want, need, one, run, fork}
use Rattle.lexical.specs.Lexical.{is_blank, is_loose, byte, skip, fixed, gap, line_end, leading}
use Rattle.lexical.specs.Token.{token, span}
use Rattle.integer.specs.Decimal.{digits_from, is_digit}
use Rattle.symbol.specs.Symbol.{ends_with, before, opening, stored}
use Rattle.lines.specs.Lines.{positive, width_line, element, array_line}
use Rattle.header.specs.Header.{Head, rest as rest_lines, header}

-- a name buffer's length and a text; what is told of its header, and the bytes stored in the buffer
record Row : Type 0 where
  room : ℕ
  text : List ℕ
  answer : Outcome (Ended Head) × List ℕ

abbrev row : ℕ → List ℕ → Outcome (Ended Head) → String → Row
row n t a s = record { room = n; text = t; answer = (a, ascii s) }

-- a text that ends with its width line, or its height line; a header with both hotspot lines
abbrev width : String → List ℕ
width w = ascii "#define d_width " ++ ascii w ++ ascii "\n"

abbrev height : String → List ℕ
height h = width "9" ++ ascii "#define d_height " ++ ascii h ++ ascii "\n"

abbrev hot : String → String → List ℕ
hot x y = height "1" ++ ascii "#define d_x_hot " ++ ascii x ++ ascii "\n#define d_y_hot " ++ ascii y ++ ascii "\nstatic char d_bits[] = {"

abbrev rows : List Row
rows =
    row 256 (width "") (unplaced 111) "d_width"
    ∷ row 256 (width "-") (unplaced 113) "d_width"
    ∷ row 256 (width "014") (unplaced 112) "d_width"
    ∷ row 256 (width "014z") (unplaced 112) "d_width"
    ∷ row 256 (width "9\r") (unplaced 113) "d_width"
    ∷ row 256 (width "9999999999z") (unplaced 113) "d_width"
    ∷ row 256 (width "4294967296") (unplaced 114) "d_width"
    ∷ row 256 (width "0") (unplaced 21) "d_width"
    ∷ row 256 (width "0 z") (refused 1 (place_of 19 1 19 0)) "d_width"
    ∷ row 256 (width "123456789012") (refused 1 (place_of 27 1 27 0)) "d_width"
    ∷ row 256 (width "9") (refused 2 (place_of 18 2 0 18)) "d_width"
    ∷ row 7 (width "9") (refused 2 (place_of 18 2 0 18)) "d_width"
    ∷ row 6 (width "9") (refused 1 (place_of 14 1 14 0)) "d_widt"
    ∷ row 0 (width "9") (refused 1 (place_of 8 1 8 0)) ""
    ∷ row 256 (ascii "#include\n" ++ width "9") (refused 1 (place_of 2 1 2 0)) ""
    ∷ row 256 (height "") (unplaced 121) "d_width"
    ∷ row 256 (height "00") (unplaced 122) "d_width"
    ∷ row 256 (height "+1") (unplaced 123) "d_width"
    ∷ row 256 (height "99999999999") (unplaced 124) "d_width"
    ∷ row 256 (hot "-2147483648" "0") (accepted (ending_at (record { name = ascii "d"; width = 9; height = 1; hot = some (neg_ℤ (pos 2147483648), pos 0) }) (place_of 107 5 24 83))) "d_width"
    ∷ row 256 (hot "-0" "0") (accepted (ending_at (record { name = ascii "d"; width = 9; height = 1; hot = some (pos 0, pos 0) }) (place_of 98 5 24 74))) "d_width"
    ∷ row 256 (hot "-" "0") (unplaced 131) "d_width"
    ∷ row 256 (hot "-00" "0") (unplaced 132) "d_width"
    ∷ row 256 (hot "+1" "0") (unplaced 133) "d_width"
    ∷ row 256 (hot "2147483648" "0") (unplaced 134) "d_width"
    ∷ row 256 (hot "123456789012" "0") (refused 3 (place_of 64 3 27 37)) "d_width"
    ∷ row 256 (hot "0" "") (unplaced 141) "d_width"
    ∷ row 256 (hot "0" "0-") (unplaced 142) "d_width"
    ∷ row 256 (hot "0" "--1") (unplaced 143) "d_width"
    ∷ row 256 (hot "0" "-2147483649") (unplaced 144) "d_width"
    ∷ []

-- the same by the definitions
abbrev says : Row → Outcome (Ended Head) × List ℕ
says r = (shown (header r.room r.text start), stored r.room r.text)

pub table : map says rows ≡ map (λ r. r.answer) rows
unfolding header width_line rest_lines element array_line opening stored span positive before ends_with leading fixed gap line_end token skip byte is_blank is_loose digits_from is_digit give want need one run fork rest after ◌>>=◌
table = refl
