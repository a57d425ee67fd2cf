-- Worked examples of `xbm_next_byte`, computed from the definitions: the rows of one table, by one claim. The text is mask M, or a cut of it.
use Rattle.std.specs.Prelude.{ℕ, ◌≡◌, refl, List, [], ◌∷◌, map, take}
use Rattle.text.specs.Ascii.{ascii}
use Rattle.text.specs.declared.TextLocation.{TextLocation}
use Rattle.text.specs.Place.{place_of, rest, after}
use Rattle.text.specs.Reader.{◌>>=◌}
use Rattle.text.specs.Leaf.{give, one, run, fork, eot}
use Rattle.lexical.specs.Lexical.{is_blank, is_loose, byte, skip, fixed}
use Rattle.hexadecimal.specs.Hex.{hex_of, hexv, hex_digit, is_mark, hex_start, hex_digits, hex_unit}
use Rattle.decoder.specs.declared.XbmStreamDecoder.{XbmStreamDecoder}
use Rattle.body.specs.Data.{item, brace, closing, tail, trailer}
use Rattle.decoder.specs.Step.{foreign, called, step_of}
use Rattle.byte_report.specs.Next.{reported}
use Rattle.xbm_c.specs.Next.{result_at, decoder_at, report_at}

abbrev mask : List ℕ
mask = ascii "#define d_width 9\n#define d_height 1\nstatic char d_bits[] = {0x01,0x00};\n"

-- M's decoder at a position and place
abbrev at : ℕ → TextLocation → XbmStreamDecoder
at k p = record { width = 9; height = 1; current_position = k; location = p }

-- a text and the decoder lent; the result, and the later decoder and report
record Row : Type 0 where
  text : List ℕ
  lent : XbmStreamDecoder
  answer : ℕ × XbmStreamDecoder × List ℕ

abbrev row : List ℕ → XbmStreamDecoder → ℕ → XbmStreamDecoder → List ℕ → Row
row t d n e l = record { text = t; lent = d; answer = (n, e, l) }

-- the report of a call that tells no place
abbrev unplaced : List ℕ
unplaced = 0 ∷ 0 ∷ 0 ∷ 0 ∷ 0 ∷ 0 ∷ 0 ∷ 0 ∷ 0 ∷ 0 ∷ []

abbrev rows : List Row
rows =
    -- the two data bytes, then none, then the end is met
    row mask (at 0 (place_of 61 3 24 37)) 0 (at 1 (place_of 65 3 28 37)) (reported (place_of 65 3 28 37) 1)
    ∷ row mask (at 1 (place_of 65 3 28 37)) 0 (at 2 (place_of 70 3 33 37)) (reported (place_of 70 3 33 37) 0)
    ∷ row mask (at 2 (place_of 70 3 33 37)) 0 (at 2 (place_of 73 4 0 73)) (reported (place_of 73 4 0 73) 256)
    ∷ row mask (at 2 (place_of 73 4 0 73)) 7 (at 2 (place_of 73 4 0 73)) (reported (place_of 73 4 0 73) 0)
    -- M's first 65 bytes: the second byte is spent, and refused
    ∷ row (take 65 mask) (at 1 (place_of 65 3 28 37)) 6 (at 2 (place_of 65 3 28 37)) (reported (place_of 65 3 28 37) 0)
    -- a position above 2; a start that is not byte less column, above it or below
    ∷ row mask (at 3 (place_of 70 3 33 37)) 9 (at 3 (place_of 70 3 33 37)) unplaced
    ∷ row mask (at 1 (place_of 65 3 28 38)) 9 (at 1 (place_of 65 3 28 38)) unplaced
    ∷ row mask (at 1 (place_of 65 3 28 36)) 9 (at 1 (place_of 65 3 28 36)) unplaced
    ∷ []

-- the same by the definitions
abbrev says : Row → ℕ × XbmStreamDecoder × List ℕ
says r = (result_at r.text r.lent, decoder_at r.text r.lent, report_at r.text r.lent)

pub table : map says rows ≡ map (λ r. r.answer) rows
unfolding step_of foreign called item trailer closing brace tail hex_unit hex_digits hex_start hex_digit hexv hex_of is_mark is_blank is_loose byte skip fixed give one run fork eot rest after ◌>>=◌
table = refl
