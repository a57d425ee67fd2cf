-- The claims are not vacuous: document 01's mask M meets their hypotheses, and each way that a claim can go is met by M, one of its cuts or another buffer;
-- and every hotspot of 32 bits meets that of `distinct`.
use Rattle.std.specs.Prelude.{◌≡◌, refl, ◌⊎◌, ℕ, ◌≤◌, ◌<◌, List, [], ◌∷◌, ◌++◌, length, take, replicate, ℤ, pos, negsuc}
use Rattle.std.proofs.Common.{sym, ◌∙◌, inl, inr, arith}
use Rattle.std.proofs.Math.Decide.{dec_lt}
use Rattle.std.proofs.Math.Option.{Option, none, some}
use Rattle.text.specs.Ascii.{ascii}
use Rattle.text.specs.Place.{after, rest, place_of}
use Rattle.text.specs.Reader.{◌>>=◌}
use Rattle.text.specs.Leaf.{give, want, need, one, run, fork, eot}
use Rattle.text.specs.Outcome.{Outcome, accepted, refused, unplaced}
use Rattle.lexical.specs.Lexical.{is_blank, is_loose, byte, skip, fixed, gap, line_end, leading}
use Rattle.lexical.specs.Token.{token}
use Rattle.hexadecimal.specs.Hex.{hex_of, hexv, hex_digit, is_mark, hex_start, hex_digits, hex_unit}
use Rattle.integer.specs.Decimal.{is_digit, digits_from}
use Rattle.symbol.specs.Symbol.{ends_with, before}
use Rattle.lines.specs.Lines.{positive, width_line, element, array_line}
use Rattle.header.specs.Header.{rest as rest_of, Head, header}
use Rattle.body.specs.Data.{item, items, brace, closing, tail, trailer, log_of}
use Rattle.cells.specs.Cells.{cell, painted}
use Rattle.rows.specs.Rows.{whole}
use Rattle.image.specs.Reading.{picture, reading}
use Rattle.print.specs.Decimal.{digits, signed}
use Rattle.print.specs.Output.{joined}
use Rattle.printing.specs.Printed.{hot_text}
use Rattle.grammar.specs.Lang.{Word, ◌·◌, Some}
use Rattle.grammar.specs.Grammar.{Mask, Gap, Coordinate, Define, Hotspot, Header, Format}
use Rattle.grammar.proofs.Flat.{define-is}
use Rattle.grammar.proofs.Sample.{writes-M}
use Rattle.claims.specs.Terms.{head_of, Fitting, Rule, Last, Begun, Came, Mismatched, Possible}
use Rattle.claims.specs.Written.{InRange, Hots}
use Rattle.claims.proofs.Written.{written-signed}
use Rattle.claims.specs.Claims.{Cut}
use Rattle.claims.proofs.Claims.{cuts, mismatches, headless}

abbrev M : List ℕ
M = ascii "#define d_width 9\n#define d_height 1\nstatic char d_bits[] = {0x01,0x00};\n"

abbrev mask : Mask
mask = record { name = ascii "d"; width = 9; height = 1; hot = none; bytes = 1 ∷ 0 ∷ [] }

abbrev name : List ℕ
name = replicate 256 0

abbrev pixels : List ℕ
pixels = replicate 9 7

pub writes : Format (length name) mask M
writes = writes-M

pub fits : Fitting mask pixels
fits = refl

-- ---- by computing

abbrev answer : ℕ → ℕ → Outcome Head
answer n cells = (reading (take n M) name (replicate cells 7)).answer

computed : ((reading (take 65 M) name pixels).pixels ≡ 0 ∷ 255 ∷ 255 ∷ 255 ∷ 255 ∷ 255 ∷ 255 ∷ 255 ∷ 7 ∷ [])
    × (answer 71 9 ≡ refused 7 (place_of 71 3 34 37)) × (answer 72 9 ≡ accepted (head_of mask)) × (answer 60 9 ≡ refused 5 (place_of 60 3 23 37))
    × (answer 64 8 ≡ refused 6 (place_of 64 3 27 37)) × (answer 65 8 ≡ unplaced 31) × (answer 71 18 ≡ refused 7 (place_of 71 3 34 37)) × (answer 72 18 ≡ unplaced 31)
unfolding after rest ◌>>=◌ give want need one run fork eot is_blank is_loose byte skip fixed gap line_end leading token hex_of hexv hex_digit is_mark hex_start hex_digits hex_unit is_digit digits_from rest_of ends_with before positive width_line element array_line header item items brace closing tail trailer log_of cell painted whole picture reading
computed = (refl, refl, refl, refl, refl, refl, refl, refl)

-- ---- the cut at 65: byte 0 came whole and byte 1 did not, so cell 0 goes one way and cell 8 the other

pub at-65 : Cut M name pixels mask 65 (reading (take 65 M) name pixels)
at-65 = cuts M name pixels mask 65 writes fits (omega arith)

pub came-0 : Came (length name) mask M 65 0
came-0 = go (rw computed.0 at (at-65.cells 0 0 (omega arith) (omega arith)))
  where
    go : (Came (length name) mask M 65 0 × Rule mask 0 0 (some 0)) ⊎ ((Came (length name) mask M 65 0 → ⊥) × (◌≡◌ {A = Option ℕ} (some 0) (some 7))) → Came (length name) mask M 65 0
    go (inl (c, r)) = c
    go (inr (c, r)) = let z : ◌≡◌ {A = ℕ} 0 7 = cc in absurd (omega arith)

pub not-came-1 : Came (length name) mask M 65 1 → ⊥
not-came-1 = go (rw computed.0 at (at-65.cells 0 8 (omega arith) (omega arith)))
  where
    go : (Came (length name) mask M 65 1 × Rule mask 0 8 (some 7)) ⊎ ((Came (length name) mask M 65 1 → ⊥) × (◌≡◌ {A = Option ℕ} (some 7) (some 7))) → Came (length name) mask M 65 1 → ⊥
    go (inl (c, (b, q, inl (x, y)))) = let z : ◌≡◌ {A = ℕ} 7 0 = cc in absurd (omega arith)
    go (inl (c, (b, q, inr (x, y)))) = let z : ◌≡◌ {A = ℕ} 7 255 = cc in absurd (omega arith)
    go (inr (c, r)) = c

-- ---- the last semicolon: it is one, and in M it stands at 71, between a cut that is refused and one that is not

pub one_last : (b : ℕ) (t : List ℕ) (r s : ℕ) → Last b t r → Last b t s → r ≡ s
one_last b t r s (p, q) (x, y) = go (dec_lt r s) (dec_lt s r)
  where
    go : Dec (r < s) → Dec (s < r) → r ≡ s
    go (yes l) d = absurd (q s l x)
    go (no l) (yes d) = absurd (y r d p)
    go (no l) (no d) = omega arith

at-71 : Cut M name pixels mask 71 (reading (take 71 M) name pixels)
at-71 = cuts M name pixels mask 71 writes fits (omega arith)

at-72 : Cut M name pixels mask 72 (reading (take 72 M) name pixels)
at-72 = cuts M name pixels mask 72 writes fits (omega arith)

pub last-71 : at-65.semicolon ≡ 71
last-71 = omega (arith, one_last 59 M _ _ at-65.last at-71.last, one_last 59 M _ _ at-65.last at-72.last, below, above)
  where
    below : 71 ≤ at-71.semicolon
    below = at-71.refuses.0 (λ h q. (let x : refused 7 (place_of 71 3 34 37) ≡ accepted h = sym computed.1 ∙ q in let z : ◌≡◌ {A = ℕ} 0 1 = cc in omega arith))

    above : at-72.semicolon < 72
    above = go (dec_lt at-72.semicolon 72)
      where
        go : Dec (at-72.semicolon < 72) → at-72.semicolon < 72
        go (yes l) = l
        go (no l) = absurd (at-72.refuses.1 (omega arith) (head_of mask) computed.2)

-- ---- 31: into too few rows at the data byte's end and not before, into too many after the semicolon and not before

pub few-65 : Mismatched (length name) (take 65 M) (replicate 8 7)
few-65 = (mismatches (take 65 M) name (replicate 8 7)).0 computed.5

pub not-few-64 : Mismatched (length name) (take 64 M) (replicate 8 7) → ⊥
not-few-64 x = let e : refused 6 (place_of 64 3 27 37) ≡ unplaced 31 = sym computed.4 ∙ (mismatches (take 64 M) name (replicate 8 7)).1 x in let z : ◌≡◌ {A = ℕ} 0 1 = cc in omega arith

pub many-72 : Mismatched (length name) (take 72 M) (replicate 18 7)
many-72 = (mismatches (take 72 M) name (replicate 18 7)).0 computed.7

pub not-many-71 : Mismatched (length name) (take 71 M) (replicate 18 7) → ⊥
not-many-71 x = let e : refused 7 (place_of 71 3 34 37) ≡ unplaced 31 = sym computed.6 ∙ (mismatches (take 71 M) name (replicate 18 7)).1 x in let z : ◌≡◌ {A = ℕ} 0 1 = cc in omega arith

-- ---- the header is refused up to its last byte

pub no-header-60 : (m : Mask) → Begun (Header (length name) m) (take 60 M) → ⊥
no-header-60 = (headless (take 60 M) name pixels).0 (rw computed.3 (omega arith, omega arith))

-- ---- every hotspot of 32 bits is possible, as an absent one is

line : (s : List ℕ) (z : ℤ) → InRange z → Define (Word s) (Coordinate z) (ascii "#define" ++ ascii " " ++ s ++ ascii " " ++ signed z ++ [] ++ ascii "\n")
unfolding Word Gap Some
line s z h = (define-is (Word s) (Coordinate z) _).1 (ascii " ", s, ascii " ", signed z, [], refl, ((refl, tt), omega arith), refl, ((refl, tt), omega arith), (written-signed z h).0, tt)

pub possible : (o : Option (ℤ × ℤ)) → Hots o → Possible o
unfolding Hotspot ◌·◌ Word
possible none h = ([], [], refl)
possible (some (x, y)) (h, k) = ([], _, (_, _, refl, line (ascii "_x_hot") x h, line (ascii "_y_hot") y k))

pub minus_one : Possible (some (negsuc 0, negsuc 0))
minus_one = possible (some (negsuc 0, negsuc 0)) (omega arith, omega arith)

-- of numbers beyond 20 digits `distinct` would be false
pub past-twenty : hot_text (some (pos 100000000000000000000, pos 0)) ≡ hot_text (some (pos 200000000000000000000, pos 0))
unfolding digits joined
past-twenty = refl
