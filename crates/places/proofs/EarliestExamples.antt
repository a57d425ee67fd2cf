-- Texts for each way of the claim on the earliest place: a wrong byte, an end, a token too long, a symbol refused too late, no room. So none is empty.
use Rattle.std.specs.Prelude.{◌≡◌, refl, ℕ, suc, ◌<◌, List, [], ◌∷◌, ◌++◌, length, take, replicate}
use Rattle.std.proofs.Common.{sym, ap, arith, append-nil, length-append}
use Rattle.text.specs.declared.TextLocation.{TextLocation}
use Rattle.text.specs.Ascii.{ascii}
use Rattle.text.specs.Place.{byte_of, place_of, rest, after}
use Rattle.text.specs.Reader.{◌>>=◌}
use Rattle.text.specs.Leaf.{give, want, need, one, run, fork, eot}
use Rattle.text.specs.Outcome.{refused}
use Rattle.lexical.specs.Lexical.{is_blank, is_loose, byte, skip, fixed, gap, line_end, leading}
use Rattle.lexical.specs.Token.{token}
use Rattle.hexadecimal.specs.Hex.{hex_of, hexv, hex_digit, is_mark, hex_start, hex_digits, hex_unit}
use Rattle.integer.specs.Decimal.{is_digit, digits_from}
use Rattle.symbol.specs.Symbol.{ends_with, before, opening}
use Rattle.lines.specs.Lines.{positive, width_line, element, array_line}
use Rattle.header.specs.Header.{rest as rest_of, header}
use Rattle.body.specs.Data.{item, items, brace, closing, tail, trailer}
use Rattle.rows.specs.Rows.{whole}
use Rattle.image.specs.Reading.{picture, reading}
use Rattle.grammar.specs.Lang.{Lang, Word, ◌·◌, All, Many, Some, Star, stop as None-more}
use Rattle.grammar.specs.Grammar.{Mask, blank, solid, Gap, Skipped, Define, Symbol, Header, Data, Format}
use Rattle.claims.specs.Terms.{Begun, Opening}
use Rattle.refusals.specs.Terms.{Token}
use Rattle.refusals.proofs.Lines.{front, widths}
use Rattle.refusals.proofs.HeaderRows.{row-1}
use Rattle.places.specs.Terms.{Named}
use Rattle.places.specs.Savable.{Can, Lost, Savable, taken, ended, SavableLine, long, Width, BeforeWidth, Stuck}
use Rattle.places.proofs.EarliestWidth.{named, stuck, exactly}
use Rattle.places.proofs.Earliest.{earliest}

-- ---- the width line, each way

abbrev name : List ℕ
name = replicate 256 0

-- a width line with this token and these blanks
sound : (w b : List ℕ) → Token w → All blank b → Width 256 (ascii "#define d_width " ++ (w ++ (b ++ ascii "\n")))
unfolding ◌·◌ Define Symbol Word Gap Some Many
sound w b x y = (
  ascii "d",
  (
    ascii "#define d_width " ++ (w ++ (b ++ ascii "\n")),
    [],
    sym (append-nil _),
    (
      [],
      ascii "#define d_width " ++ (w ++ (b ++ ascii "\n")),
      refl,
      None-more,
      (
        ascii "#define",
        ascii " d_width " ++ (w ++ (b ++ ascii "\n")),
        refl,
        refl,
        (
          ascii " ",
          ascii "d_width " ++ (w ++ (b ++ ascii "\n")),
          refl,
          ((refl, tt), omega arith),
          (ascii "d_width", ascii " " ++ (w ++ (b ++ ascii "\n")), refl, (refl, (refl, tt), omega arith), (ascii " ", w ++ (b ++ ascii "\n"), refl, ((refl, tt), omega arith), (w, b ++ ascii "\n", refl, x, (b, ascii "\n", refl, y, refl)))),
        ),
      ),
    ),
  ),
)

opens : Opening (ascii "#define ")
unfolding ◌·◌ Word Gap Some
opens = ([], ascii "#define ", refl, None-more, (ascii "#define", ascii " ", refl, refl, ((refl, tt), omega arith)))

headed : (Star Skipped · Named (Symbol 256 (ascii "d"))) (ascii "#define d_width ")
unfolding ◌·◌ Word Gap Some Symbol
headed = ([], ascii "#define d_width ", refl, None-more, (ascii "#define", ascii " d_width ", refl, refl, (ascii " ", ascii "d_width ", refl, ((refl, tt), omega arith), (ascii "d_width", ascii " ", refl, (refl, (refl, tt), omega arith), ((refl, tt), omega arith)))))

-- refused with 1, whatever follows: no continuation has a width line
gone-1 : (t : List ℕ) (p : TextLocation) → ((v : List ℕ) → (reading (t ++ v) name []).answer ≡ refused 1 p) → Lost (Width 256) t
gone-1 t p q v (s, b) = (row-1 (t ++ v) name []).0 (p, q v) s b

-- a byte after the token's blanks
wrong : ((reading (ascii "#define d_width 9 x\n") name []).answer ≡ refused 1 (place_of 19 1 19 0)) × Savable (ascii "#define d_width 9 x\n") (place_of 19 1 19 0) (Width 256)
unfolding after rest ◌>>=◌ give want one run is_blank is_loose byte skip fixed gap line_end leading token ends_with before width_line header picture reading
wrong = (refl, taken 18 refl (ascii "\n", sound (ascii "9") (ascii " ") ((refl, tt), omega arith) (refl, tt)) (gone-1 (ascii "#define d_width 9 x") (place_of 19 1 19 0) (λ v. refl)))

-- no newline
ends : ((reading (ascii "#define d_width 9") name []).answer ≡ refused 1 (place_of 17 1 17 0)) × Savable (ascii "#define d_width 9") (place_of 17 1 17 0) (Width 256)
unfolding after rest ◌>>=◌ give want one run is_blank is_loose byte skip fixed gap line_end leading token ends_with before width_line header picture reading
ends = (refl, ended refl (ascii "\n", sound (ascii "9") [] ((refl, tt), omega arith) tt))

-- a token of twelve bytes
too_long : ((reading (ascii "#define d_width 123456789012\n") name []).answer ≡ refused 1 (place_of 27 1 27 0)) × SavableLine (ascii "#define d_width 123456789012\n") (place_of 27 1 27 0) (BeforeWidth 256) (Width 256)
unfolding after rest ◌>>=◌ give want one run is_blank is_loose byte skip fixed gap line_end leading token ends_with before width_line header picture reading
too_long = (refl, long (ascii "#define d_width ", ascii "12345678901", 50, ascii "\n", refl, (ascii "d", headed), refl, refl, all) (ascii "\n", sound (ascii "12345678901") [] (all_but, omega arith) tt) (gone-1 (ascii "#define d_width 123456789012") (place_of 27 1 27 0) (λ v. refl)))
  where
    all : All solid (ascii "123456789012")
    all = (refl, (refl, (refl, (refl, (refl, (refl, (refl, (refl, (refl, (refl, (refl, (refl, tt))))))))))))

    all_but : All solid (ascii "12345678901")
    all_but = (refl, (refl, (refl, (refl, (refl, (refl, (refl, (refl, (refl, (refl, (refl, tt)))))))))))

-- ---- the width's symbol, refused too late

-- with a name buffer of 6 bytes, where the symbol ends and where it is too long
without : (reading (ascii "#define a ") (replicate 6 0) []).answer ≡ refused 1 (place_of 9 1 9 0)
unfolding after rest ◌>>=◌ give want one run is_blank is_loose byte skip fixed gap leading token ends_with before width_line header picture reading
without = refl

full : (reading (ascii "#define a_width") (replicate 6 0) []).answer ≡ refused 1 (place_of 14 1 14 0)
unfolding after rest ◌>>=◌ give want one run is_blank is_loose byte skip fixed gap leading token ends_with before width_line header picture reading
full = refl

late : Stuck 6 (ascii "#define a ") (place_of 9 1 9 0)
unfolding after rest ◌>>=◌ give want one run is_blank is_loose byte skip fixed gap leading token ends_with before opening front widths named
late = stuck 6 (ascii "#define a ") (place_of 9 1 9 0) refl (place_of 8 1 8 0) refl refl

-- the bytes before the symbol can be saved; those up to the place cannot, for `a_width` has 7 bytes
before-it : Can (Width 6) late.bad.fore
before-it = late.saved (omega arith)

no_symbol : (z s : List ℕ) → Symbol 6 s (97 ∷ z) → ⊥
unfolding Symbol
no_symbol z [] (q, a, l) = let e : ◌≡◌ {A = ℕ} 97 95 = cc in omega arith
no_symbol z (x ∷ s) (q, a, l) = omega (arith, ap length q, length-append s (ascii "_width"))

gone : Lost (Width 6) (ascii "#define a")
gone v k = let (z, s, x) = (exactly 6 (ascii "#define ") opens (ascii "a") (refl, tt)).0 (v, k) in no_symbol z s x

-- so without the exception the claim would be false: `#define ab ` is refused at byte 10, and nine of its bytes are lost already
after-all : (reading (ascii "#define ab ") (replicate 6 0) []).answer ≡ refused 1 (place_of 10 1 10 0)
unfolding after rest ◌>>=◌ give want one run is_blank is_loose byte skip fixed gap leading token ends_with before width_line header picture reading
after-all = refl

no_other : Savable (ascii "#define ab ") (place_of 10 1 10 0) (Width 6) → ⊥
no_other (taken n q (v, k) g) = let e : n ≡ 9 = omega arith in gone v (rw e at k)
no_other (ended q c) = omega arith

-- ---- no room for any symbol

nothing : ((reading [] (replicate 5 0) []).answer ≡ refused 1 (place_of 0 1 0 0)) × Savable [] (place_of 0 1 0 0) (Begun Opening)
unfolding rest ◌>>=◌ run leading header picture reading
nothing = (refl, ended refl (ascii "#define ", (ascii "#define ", [], refl, opens)))

-- ---- by the claim: a wrong byte that others follow

only-taken : {L : Lang} (t : List ℕ) (p : TextLocation) (n : ℕ) → suc n ≡ byte_of p → byte_of p < length t → Savable t p L → Can L (take n t) × Lost L (take (suc n) t)
only-taken t p n m i (taken k q c l) = let e : k ≡ n = omega arith in (rw e at c, rw m l)
only-taken t p n m i (ended q c) = absurd (omega arith)

abbrev pixels : List ℕ
pixels = replicate 9 7

-- 6: no hex digit
abbrev T6 : List ℕ
T6 = ascii "#define d_width 9\n#define d_height 1\nstatic char d_bits[] = {0x01,0xq "

abbrev Bytes : Mask → ℕ → Lang
Bytes m k t = (l : List ℕ) × (length l ≡ k) × Begun (Header 256 m · Data l) t

by-6 : (m : Mask) × (k : ℕ) × (Can (Bytes m k) (take 68 T6) × Lost (Bytes m k) (take 69 T6))
unfolding after rest ◌>>=◌ give want need one run fork eot is_blank is_loose byte skip fixed gap line_end leading token hex_of hexv hex_digit is_mark hex_start hex_digits hex_unit is_digit digits_from rest_of ends_with before positive width_line element array_line header item items whole picture reading
by-6 = let (m, k, r, b, s) = (earliest T6 name pixels 6 (place_of 69 3 32 37) refl).n6 refl in (m, k, only-taken T6 (place_of 69 3 32 37) 68 refl (omega arith) s)

-- 8: a byte after the closing
abbrev T8 : List ℕ
T8 = ascii "#define d_width 9\n#define d_height 1\nstatic char d_bits[] = {0x01,0x00};\nz "

by_8 : (m : Mask) × (Can (Format 256 m) (take 73 T8) × Lost (Format 256 m) (take 74 T8))
unfolding after rest ◌>>=◌ give want need one run fork eot is_blank is_loose byte skip fixed gap line_end leading token hex_of hexv hex_digit is_mark hex_start hex_digits hex_unit is_digit digits_from rest_of ends_with before positive width_line element array_line header item items brace closing tail trailer whole picture reading
by_8 = let (m, h, l, b, s) = (earliest T8 name pixels 8 (place_of 74 4 1 73) refl).n8 refl in (m, only-taken T8 (place_of 74 4 1 73) 73 refl (omega arith) s)
