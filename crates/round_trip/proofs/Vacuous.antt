-- The claims on the writer are not vacuous: for each way that one can go there is something that goes it.
use Rattle.std.specs.Prelude.{◌≡◌, refl, ℕ, ◌≤◌, List, [], ◌∷◌, length, take, replicate, pos, negsuc}
use Rattle.std.proofs.Common.{sym, ap, ◌∙◌, inl, inr, arith}
use Rattle.std.proofs.Math.Option.{none, some}
use Rattle.std.proofs.lemmas.List.{length-replicate}
use Rattle.text.specs.Ascii.{ascii}
use Rattle.text.specs.Place.{after, rest, place_of}
use Rattle.text.specs.Reader.{◌>>=◌}
use Rattle.text.specs.Leaf.{give, want, need, one, run, fork, eot}
use Rattle.text.specs.Outcome.{accepted, refused}
use Rattle.lexical.specs.Lexical.{is_blank, is_loose, byte, skip, fixed, gap, line_end, leading}
use Rattle.lexical.specs.Token.{token}
use Rattle.hexadecimal.specs.Hex.{hex_of, hexv, hex_digit, is_mark, hex_start, hex_digits, hex_unit}
use Rattle.integer.specs.Decimal.{is_digit, digits_from}
use Rattle.symbol.specs.Symbol.{ends_with, before}
use Rattle.lines.specs.Lines.{positive, width_line, element, array_line}
use Rattle.header.specs.Header.{rest as rest_of, Head, header}
use Rattle.body.specs.Data.{item, items, brace, closing, tail, trailer, log_of}
use Rattle.cells.specs.Cells.{cell, painted}
use Rattle.rows.specs.Rows.{whole}
use Rattle.image.specs.Reading.{picture, reading}
use Rattle.image.specs.Limited.{after_header, limited, within}
use Rattle.print.specs.Decimal.{digits}
use Rattle.print.specs.Output.{joined}
use Rattle.listing.specs.Listing.{listed_within, listed, listing}
use Rattle.mask.specs.Fault.{fault}
use Rattle.data_text.specs.Packed.{packed_at}
use Rattle.header_text.specs.HeaderText.{head_text}
use Rattle.writer.specs.Written.{written}
use Rattle.writer.specs.Writing.{wrong, writing}
use Rattle.rewriting.specs.Rewriting.{rewriting}
use Rattle.round_trip.specs.Terms.{mask_of, BadName, BadCell, Taken, Back, picture_of, text_of, at_start, Layout}
use Rattle.round_trip.proofs.Back as Reads
use Rattle.round_trip.specs.RoundTrip.{Again, Rewritten}
use Rattle.round_trip.proofs.RoundTrip.{writes, comes_back, rewrites, lays-out, same-again, rewritten}

-- nine cells, the first of them ink; a cell that is none
abbrev nine : List ℕ
nine = 0 ∷ replicate 8 255

-- ---- what is refused

pub long-name : BadName (replicate 251 97)
long-name = inl (omega (arith, length-replicate {A = ℕ} 251 97))

pub blank-name : BadName (ascii "a b")
blank-name = inr (1, 32, refl, inl refl)

pub other-cell : BadCell (0 ∷ 7 ∷ [])
other-cell = (1, 7, refl, λ e. omega arith, λ e. omega arith)

-- ---- what is written: three names, each of which comes back

abbrev out : List ℕ
out = replicate 900 1

abbrev long : List ℕ
long = replicate 250 97

computed : ((writing (13 ∷ []) 9 1 none nine out).answer ≡ accepted 87) × ((writing long 9 1 none nine out).answer ≡ accepted 834)
    × ((writing (ascii "a_width") 9 1 (some (negsuc 0, pos 2)) nine out).answer ≡ accepted 154)
unfolding writing wrong fault written head_text packed_at joined digits
computed = (refl, refl, refl)

pub taken : Taken (13 ∷ []) 9 1 nine
taken = (Reads.written-so (13 ∷ []) 9 1 none nine out 87 computed.0).0

pub back-return : Back (13 ∷ []) 9 1 none nine (reading (take 87 (writing (13 ∷ []) 9 1 none nine out).bytes) (replicate 256 0) (replicate 9 7))
back-return = comes_back (13 ∷ []) 9 1 none nine out 87 (omega arith) (omega arith) tt computed.0 (replicate 256 0) (replicate 9 7) (omega (arith, length-replicate {A = ℕ} 256 0)) refl

pub back_long : Back long 9 1 none nine (reading (take 834 (writing long 9 1 none nine out).bytes) (replicate 256 0) (replicate 9 7))
back_long = comes_back long 9 1 none nine out 834 (omega arith) (omega arith) tt computed.1 (replicate 256 0) (replicate 9 7) (omega (arith, length-replicate {A = ℕ} 256 0)) refl

pub back-ending : Back (ascii "a_width") 9 1 (some (negsuc 0, pos 2)) nine (reading (take 154 (writing (ascii "a_width") 9 1 (some (negsuc 0, pos 2)) nine out).bytes) (replicate 256 0) (replicate 9 7))
back-ending = comes_back (ascii "a_width") 9 1 (some (negsuc 0, pos 2)) nine out 154 (omega arith) (omega arith) (omega arith, omega arith) computed.2 (replicate 256 0) (replicate 9 7) (omega (arith, length-replicate {A = ℕ} 256 0)) refl

-- ---- what is read and written again: document 01's mask M

abbrev M : List ℕ
M = ascii "#define d_width 9\n#define d_height 1\nstatic char d_bits[] = {0x01,0x00};\n"

abbrev names : List ℕ
names = replicate 256 0

abbrev cells : List ℕ
cells = replicate 65536 7

abbrev head : Head
head = record { name = ascii "d"; width = 9; height = 1; hot = none }

abbrev text_d : List ℕ
text_d = ascii "#define d_width 9\n#define d_height 1\nstatic unsigned char d_bits[] = {\n   0x01, 0x00};\n"

read-M : ((reading M names (replicate 9 7)).answer ≡ accepted head) × (picture_of head (reading M names (replicate 9 7)) ≡ nine)
    × ((reading text_d names (replicate 9 7)).answer ≡ accepted head) × (picture_of head (reading text_d names (replicate 9 7)) ≡ nine)
    × ((listed M names cells).told ≡ accepted head) × (take 9 (listed M names cells).cells ≡ nine) × ((listed (take 65 M) names cells).told ≡ refused 6 (place_of 65 3 28 37))
unfolding after rest ◌>>=◌ give want need one run fork eot is_blank is_loose byte skip fixed gap line_end leading token hex_of hexv hex_digit is_mark hex_start hex_digits hex_unit is_digit digits_from rest_of ends_with before positive width_line element array_line header item items brace closing tail trailer log_of cell painted whole picture reading after_header limited within listed_within
read-M = (refl, refl, refl, refl, refl, refl, refl)

written-D : written (ascii "d") 9 1 none nine ≡ text_d
unfolding written head_text packed_at joined digits
written-D = refl

pub again-M : Again head nine (replicate 87 1)
again-M = rw (← read-M.1) (rewrites M names (replicate 9 7) (replicate 87 1) head (omega (arith, length-replicate {A = ℕ} 256 0)) read-M.0)

-- its text is in the layout, and comes back byte for byte
pub laid : Layout (mask_of (ascii "d") 9 1 none nine) text_d
laid = rw written-D at (lays-out (ascii "d") 9 1 none nine again-M.taken (omega arith) (omega arith) tt).0

pub same-D : text_of head (picture_of head (reading text_d names (replicate 9 7))) ≡ text_d
same-D =
    same-again text_d names (replicate 9 7) (mask_of (ascii "d") 9 1 none nine)
    (rw written-D at (writes (ascii "d") 9 1 none nine (length names) (omega (arith, length-replicate {A = ℕ} 256 0)) again-M.taken (omega arith) (omega arith) tt)) refl laid
    (lays-out (ascii "d") 9 1 none nine again-M.taken (omega arith) (omega arith) tt).1

-- the program writes it for M, and prints the refusal of M's first 65 bytes
program : (input out : List ℕ) → 411140 ≤ length out → Rewritten input names cells out (rewriting 65536 65536 input names cells out)
program input out = rewritten input names cells out (omega (arith, length-replicate {A = ℕ} 256 0)) (omega (arith, length-replicate {A = ℕ} 65536 7))

pub program-M : (out : List ℕ) → 411140 ≤ length out → rewriting 65536 65536 M names cells out ≡ at_start text_d out
program-M out l = (program M out l).text head read-M.4 ∙ ap (λ (p : List ℕ). at_start (text_of head p) out) read-M.5 ∙ ap (λ (t : List ℕ). at_start t out) written-D

pub program-65 : (out : List ℕ) → 411140 ≤ length out → rewriting 65536 65536 (take 65 M) names cells out ≡ at_start (listing (take 65 M) names cells) out
program-65 out l =
    (program (take 65 M) out l).refusal
    (λ h q. (let z : refused 6 (place_of 65 3 28 37) ≡ accepted h = sym read-M.6 ∙ q in let x : ◌≡◌ {A = ℕ} 0 1 = cc in omega arith))
