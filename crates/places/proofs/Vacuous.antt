-- The claims on places are not vacuous: a refusal for each way that one comes about, by computing, and the other ways do not hold of it.
use Rattle.std.specs.Prelude.{◌≡◌, refl, ℕ, ◌-◌, ◌≤◌, ◌<◌, List, [], ◌∷◌, ◌++◌, length, take, replicate, pos}
use Rattle.std.proofs.Common.{ap, arith, inl, length-append}
use Rattle.std.proofs.Math.Option.{none}
use Rattle.text.specs.declared.TextLocation.{TextLocation}
use Rattle.text.specs.Ascii.{ascii}
use Rattle.text.specs.Place.{byte_of, place_of, after, rest}
use Rattle.text.specs.Reader.{◌>>=◌}
use Rattle.text.specs.Leaf.{give, want, need, one, run, fork, eot}
use Rattle.text.specs.Outcome.{Outcome, refused, unplaced}
use Rattle.lexical.specs.Lexical.{is_blank, is_loose, byte, skip, fixed, gap, line_end, leading}
use Rattle.lexical.specs.Token.{token}
use Rattle.hexadecimal.specs.Hex.{hex_of, hexv, hex_digit, is_mark, hex_start, hex_digits, hex_unit}
use Rattle.integer.specs.Decimal.{is_digit, digits_from}
use Rattle.symbol.specs.Symbol.{ends_with, before}
use Rattle.lines.specs.Lines.{positive, width_line, element, array_line}
use Rattle.header.specs.Header.{rest as rest_of, Head, header}
use Rattle.body.specs.Data.{item, items, brace, closing, tail, trailer, log_of}
use Rattle.cells.specs.Cells.{cell, painted}
use Rattle.rows.specs.Rows.{whole}
use Rattle.image.specs.Reading.{picture, reading}
use Rattle.grammar.specs.Lang.{Lang, Word, ◌·◌, Many, Some, Star, stop}
use Rattle.grammar.specs.Grammar.{Mask, solid, Gap, Skipped, Decimal, Side, Coordinate, Define, Symbol}
use Rattle.grammar.proofs.Lines.{all-test}
use Rattle.claims.specs.Terms.{Opening}
use Rattle.refusals.specs.Terms.{Front, Sides, Third}
use Rattle.places.specs.Terms.{Named, Lead, width, height, x-hot, y-hot, Looked, long-symbol, no-width, long-token, Settled, How, ended, wrong, looked}

abbrev pixels : List ℕ
pixels = replicate 9 7

abbrev name : List ℕ
name = replicate 256 0

-- what a text is told, with a name buffer
abbrev answer : List ℕ → List ℕ → Outcome Head
answer text name = (reading text name pixels).answer

-- all that the reading computes with
unfoldable pub computing : Unit {0}
unfolding after rest ◌>>=◌ give want need one run fork eot is_blank is_loose byte skip fixed gap line_end leading token hex_of hexv hex_digit is_mark hex_start hex_digits hex_unit is_digit digits_from rest_of ends_with before positive width_line element array_line header item items brace closing tail trailer log_of cell painted whole picture reading
computing = tt

-- the bytes up to the place settle the refusal
abbrev Wrong : List ℕ → List ℕ → ℕ → TextLocation → Type 0
Wrong text name c p = Settled text name pixels (byte_of p) c p

other : {c d : ℕ} {p : TextLocation} → ◌≡◌ {A = Outcome Head} (unplaced d) (refused c p) → ⊥
other e = let z : ◌≡◌ {A = ℕ} 0 1 = cc in omega arith

further : {c d : ℕ} {p q : TextLocation} → ◌≡◌ {A = Outcome Head} (refused d q) (refused c p) → byte_of p < byte_of q → ⊥
further {p = p} {q = q} e h = let z : q ≡ p = cc in let y : byte_of q ≡ byte_of p = cc in omega arith

-- ---- the text ends there: document 01's mask M, its first 17 bytes. More of M is no such refusal

abbrev M : List ℕ
M = ascii "#define d_width 9\n#define d_height 1\nstatic char d_bits[] = {0x01,0x00};\n"

pub ends-at-17 : (answer (take 17 M) name ≡ refused 1 (place_of 17 1 17 0)) × How (take 17 M) name pixels 1 (place_of 17 1 17 0) × (Wrong (take 17 M) name 1 (place_of 17 1 17 0) → ⊥)
unfolding computing
ends-at-17 = (refl, ended refl, λ h. further (h (ascii "\n")) (omega arith))

-- ---- the byte just before is the wrong one: `i` after `#`; and a newline, told on the following line

pub wrong-at-2 : (answer (ascii "#include\n") name ≡ refused 1 (place_of 2 1 2 0)) × How (ascii "#include\n") name pixels 1 (place_of 2 1 2 0)
unfolding computing
wrong-at-2 = (refl, wrong (omega arith) (λ v. refl))

abbrev two_newlines : List ℕ
two_newlines = ascii "#define d_width 9\n\n#define d_height 1\n"

pub wrong-at-19 : (answer two_newlines name ≡ refused 2 (place_of 19 3 0 19)) × How two_newlines name pixels 2 (place_of 19 3 0 19)
unfolding computing
wrong-at-19 = (refl, wrong (omega arith) (λ v. refl))

-- ---- the three checks that only look ahead; each time another next byte would have gone on

-- a define line as the texts below write it
named : (S : Lang) (s : List ℕ) → S s → Named S (ascii "#define " ++ (s ++ ascii " "))
unfolding ◌·◌ Word Gap Some
named S s k = (ascii "#define", ascii " " ++ (s ++ ascii " "), refl, refl, (ascii " ", s ++ ascii " ", refl, ((refl, tt), omega arith), (s, ascii " ", refl, k, ((refl, tt), omega arith))))

define : (S N : Lang) (s v : List ℕ) → S s → N v → Define S N (ascii "#define " ++ (s ++ (ascii " " ++ (v ++ ascii "\n"))))
unfolding Define ◌·◌ Word Gap Some Many
define S N s v k n = (
  ascii "#define",
  ascii " " ++ (s ++ (ascii " " ++ (v ++ ascii "\n"))),
  refl,
  refl,
  (
    ascii " ",
    s ++ (ascii " " ++ (v ++ ascii "\n")),
    refl,
    ((refl, tt), omega arith),
    (
      s,
      ascii " " ++ (v ++ ascii "\n"),
      refl,
      k,
      (ascii " ", v ++ ascii "\n", refl, ((refl, tt), omega arith), (v, ascii "\n", refl, n, ([], ascii "\n", refl, tt, refl))),
    ),
  ),
)

both : (K L : Lang) (u v : List ℕ) → K u → L v → (K · L) (u ++ v)
unfolding ◌·◌
both K L u v k l = (u, v, refl, k, l)

opening : Opening (ascii "#define ")
unfolding ◌·◌ Word Gap Some
opening = ([], ascii "#define ", refl, stop, (ascii "#define", ascii " ", refl, refl, ((refl, tt), omega arith)))

-- a symbol too long: 7 bytes of room, and `x` is the eighth
abbrev seven : List ℕ
seven = replicate 7 0

abbrev eight : List ℕ
eight = ascii "#define d_widthx 9\n"

pub looks-at-15 : (answer eight seven ≡ refused 1 (place_of 15 1 15 0)) × How eight seven pixels 1 (place_of 15 1 15 0) × (Wrong eight seven 1 (place_of 15 1 15 0) → ⊥)
unfolding computing
looks-at-15 = (
  refl,
  looked (long-symbol (ascii "#define ") (ascii "d_width") 120 (ascii " 9\n", refl, refl) opening (all-test solid (ascii "d_width") refl) refl refl) (λ v. refl),
  λ h. further (h (ascii " 9\n")) (omega arith),
)

-- a symbol without `_width`: a blank ends it
abbrev wide : List ℕ
wide = ascii "#define d_wide 9\n"

pub looks-at-14 : (answer wide name ≡ refused 1 (place_of 14 1 14 0)) × How wide name pixels 1 (place_of 14 1 14 0) × (Wrong wide name 1 (place_of 14 1 14 0) → ⊥)
unfolding computing
looks-at-14 = (
  refl,
  looked (no-width (ascii "#define ") (ascii "d_wide") 32 (ascii "9\n", refl, refl) opening (all-test solid (ascii "d_wide") refl) (omega arith) other-end refl (λ e. let z : ◌≡◌ {A = ℕ} 0 1 = cc in absurd (omega arith))) (λ v. refl),
  λ h. further (h (ascii "_width 9\n")) (omega arith),
)
  where
    other-end : (s : List ℕ) → ascii "d_wide" ≡ s ++ ascii "_width" → ⊥
    other-end [] e = let z : ◌≡◌ {A = ℕ} 100 95 = cc in omega arith
    other-end (x ∷ s) e = omega (arith, ap length e, length-append s (ascii "_width"))

-- a token too long, in each of the four lines: the twelfth digit
abbrev eleven : List ℕ
eleven = ascii "12345678901"

abbrev twelve : List ℕ
twelve = eleven ++ ascii "2\n"

abbrev mask : Mask
mask = record { name = ascii "d"; width = 9; height = 1; hot = none; bytes = [] }

digit : (b : ℕ) → 48 ≤ b → b ≤ 57 → Decimal (b - 48) (b ∷ [])
unfolding Decimal
digit b l h = (((l, h), tt), omega arith)

wide-9 : Front 256 (ascii "d") (Side 9) (ascii "#define d_width 9\n")
unfolding Symbol Side
wide-9 = both (Star Skipped) (Define (Symbol 256 (ascii "d")) (Side 9)) [] (ascii "#define d_width 9\n") stop
    (define (Symbol 256 (ascii "d")) (Side 9) (ascii "d_width") (ascii "9") (refl, (refl, tt), omega arith) (digit 57 (omega arith) (omega arith), omega arith, omega arith))

high-1 : Sides 256 mask (ascii "#define d_width 9\n#define d_height 1\n")
unfolding Word Side
high-1 = both (Front 256 (ascii "d") (Side 9)) (Define (Word (ascii "d_height")) (Side 1)) (ascii "#define d_width 9\n") (ascii "#define d_height 1\n") wide-9
    (define (Word (ascii "d_height")) (Side 1) (ascii "d_height") (ascii "1") refl (digit 49 (omega arith) (omega arith), omega arith, omega arith))

hot-3 : Third 256 mask (Coordinate (pos 3)) (ascii "#define d_width 9\n#define d_height 1\n#define d_x_hot 3\n")
unfolding Word Coordinate
hot-3 = both (Sides 256 mask) (Define (Word (ascii "d_x_hot")) (Coordinate (pos 3))) (ascii "#define d_width 9\n#define d_height 1\n") (ascii "#define d_x_hot 3\n") high-1
    (define (Word (ascii "d_x_hot")) (Coordinate (pos 3)) (ascii "d_x_hot") (ascii "3") refl (3, inl (digit 51 (omega arith) (omega arith), refl, omega arith)))

-- the lines before the token, and then twelve digits
abbrev Long : List ℕ → ℕ → TextLocation → Type 0
Long u c p = (answer (u ++ twelve) name ≡ refused c p) × How (u ++ twelve) name pixels c p × (Wrong (u ++ twelve) name c p → ⊥)

too_long : (c : ℕ) (u : List ℕ) (p : TextLocation) → Lead 256 c u → byte_of p ≡ length (u ++ eleven) → Looked 256 (u ++ twelve) p c
too_long c u p l q = long-token c u eleven 50 (ascii "\n", refl, q) l (all-test solid eleven refl) refl refl

pub looks-at-27 : Long (ascii "#define d_width ") 1 (place_of 27 1 27 0)
unfolding computing
looks-at-27 = (refl, looked (too_long 1 (ascii "#define d_width ") (place_of 27 1 27 0) (width (ascii "d") lead) refl) (λ v. refl), λ h. other (h (ascii "\n")))
  where
    lead : (Star Skipped · Named (Symbol 256 (ascii "d"))) (ascii "#define d_width ")
    lead = both (Star Skipped) (Named (Symbol 256 (ascii "d"))) [] (ascii "#define d_width ") stop (named (Symbol 256 (ascii "d")) (ascii "d_width") (unfold Symbol in (refl, (refl, tt), omega arith)))

pub looks-at-46 : Long (ascii "#define d_width 9\n#define d_height ") 2 (place_of 46 2 28 18)
unfolding computing
looks-at-46 = (refl, looked (too_long 2 (ascii "#define d_width 9\n#define d_height ") (place_of 46 2 28 18) (height mask lead) refl) (λ v. refl), λ h. other (h (ascii "\n")))
  where
    lead : (Front 256 (ascii "d") (Side 9) · Named (Word (ascii "d_height"))) (ascii "#define d_width 9\n#define d_height ")
    lead = both (Front 256 (ascii "d") (Side 9)) (Named (Word (ascii "d_height"))) (ascii "#define d_width 9\n") (ascii "#define d_height ") wide-9 (named (Word (ascii "d_height")) (ascii "d_height") (unfold Word in refl))

pub looks-at-64 : Long (ascii "#define d_width 9\n#define d_height 1\n#define d_x_hot ") 3 (place_of 64 3 27 37)
unfolding computing
looks-at-64 = (refl, looked (too_long 3 (ascii "#define d_width 9\n#define d_height 1\n#define d_x_hot ") (place_of 64 3 27 37) (x-hot mask lead) refl) (λ v. refl), λ h. other (h (ascii "\n")))
  where
    lead : (Sides 256 mask · Named (Word (ascii "d_x_hot"))) (ascii "#define d_width 9\n#define d_height 1\n#define d_x_hot ")
    lead = both (Sides 256 mask) (Named (Word (ascii "d_x_hot"))) (ascii "#define d_width 9\n#define d_height 1\n") (ascii "#define d_x_hot ") high-1 (named (Word (ascii "d_x_hot")) (ascii "d_x_hot") (unfold Word in refl))

pub looks-at-82 : Long (ascii "#define d_width 9\n#define d_height 1\n#define d_x_hot 3\n#define d_y_hot ") 4 (place_of 82 4 27 55)
unfolding computing
looks-at-82 = (refl, looked (too_long 4 (ascii "#define d_width 9\n#define d_height 1\n#define d_x_hot 3\n#define d_y_hot ") (place_of 82 4 27 55) (y-hot mask (pos 3) lead) refl) (λ v. refl), λ h. other (h (ascii "\n")))
  where
    lead : (Third 256 mask (Coordinate (pos 3)) · Named (Word (ascii "d_y_hot"))) (ascii "#define d_width 9\n#define d_height 1\n#define d_x_hot 3\n#define d_y_hot ")
    lead = both (Third 256 mask (Coordinate (pos 3))) (Named (Word (ascii "d_y_hot"))) (ascii "#define d_width 9\n#define d_height 1\n#define d_x_hot 3\n") (ascii "#define d_y_hot ") hot-3 (named (Word (ascii "d_y_hot")) (ascii "d_y_hot") (unfold Word in refl))
