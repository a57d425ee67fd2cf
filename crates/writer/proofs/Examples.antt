-- Worked examples, computed from the definitions: the rows of two tables, each by one claim.
use Rattle.std.specs.Prelude.{ℕ, ◌≡◌, refl, List, [], ◌∷◌, ◌++◌, map, replicate, ℤ, pos, negsuc}
use Rattle.std.proofs.Math.Option.{Option, none, some}
use Rattle.text.specs.Ascii.{ascii}
use Rattle.text.specs.Outcome.{Outcome, accepted, unplaced}
use Rattle.mask.specs.Fault.{fault}
use Rattle.print.specs.Decimal.{digits}
use Rattle.print.specs.Output.{joined}
use Rattle.data_text.specs.Packed.{packed_at}
use Rattle.header_text.specs.HeaderText.{head_text}
use Rattle.writer.specs.Written.{written}
use Rattle.writer.specs.Writing.{Writing, wrong, writing}

-- what is lent to the writer: a mask and an output; and what is answered and left
record Row : Type 0 where
  name : List ℕ
  width : ℕ
  height : ℕ
  hot : Option (ℤ × ℤ)
  cells : List ℕ
  out : List ℕ
  wanted : Writing

abbrev row : List ℕ → ℕ → ℕ → Option (ℤ × ℤ) → List ℕ → List ℕ → Outcome ℕ → List ℕ → Row
row name w h hot cells out answer later = record { name = name; width = w; height = h; hot = hot; cells = cells; out = out; wanted = record { answer = answer; bytes = later } }

abbrev given : Row → Writing
given r = writing r.name r.width r.height r.hot r.cells r.out

-- written into so many bytes lent as 1, with three more behind them
abbrev text : List ℕ → ℕ → ℕ → Option (ℤ × ℤ) → List ℕ → ℕ → List ℕ → Row
text name w h hot cells n later = row name w h hot cells (replicate n 1 ++ replicate 3 2) (accepted n) (later ++ replicate 3 2)

-- refused, with so many bytes lent as 1: all of them stay
abbrev refused : List ℕ → ℕ → ℕ → List ℕ → ℕ → ℕ → Row
refused name w h cells n number = row name w h none cells (replicate n 1) (unplaced number) (replicate n 1)

-- nine cells, the first of them ink
abbrev nine : List ℕ
nine = 0 ∷ replicate 8 255

abbrev text_d : List ℕ
text_d = ascii "#define d_width 9\n#define d_height 1\nstatic unsigned char d_bits[] = {\n   0x01, 0x00};\n"

-- document 01's M; an empty name, two rows of three cells and a hotspot outside; thirteen bytes, so that a second line follows; twelve, so that none does;
-- two rows of two bytes, the second byte of each with seven bits of padding; a letter and a digit in a byte, the least and the greatest coordinate
abbrev texts : List Row
texts =
    text (ascii "d") 9 1 none nine 87 text_d
    ∷ text [] 3 2 (some (negsuc 0, pos 2)) (0 ∷ 255 ∷ 0 ∷ 255 ∷ 255 ∷ 255 ∷ []) 119
    (ascii "#define _width 3\n#define _height 2\n#define _x_hot -1\n#define _y_hot 2\nstatic unsigned char _bits[] = {\n   0x05, 0x00};\n")
    ∷ text (ascii "a_width") 1 13 none (replicate 13 0) 175
    (ascii "#define a_width_width 1\n#define a_width_height 13\nstatic unsigned char a_width_bits[] = {\n   0x01, 0x01, 0x01, 0x01, 0x01, 0x01, 0x01, 0x01, 0x01, 0x01, 0x01, 0x01,\n   0x01};\n")
    ∷ text (ascii "d") 1 12 none (replicate 12 0) 148
    (ascii "#define d_width 1\n#define d_height 12\nstatic unsigned char d_bits[] = {\n   0x01, 0x01, 0x01, 0x01, 0x01, 0x01, 0x01, 0x01, 0x01, 0x01, 0x01, 0x01};\n")
    ∷ text (ascii "d") 9 2 none (replicate 17 255 ++ (0 ∷ [])) 99 (ascii "#define d_width 9\n#define d_height 2\nstatic unsigned char d_bits[] = {\n   0x00, 0x00, 0x00, 0x01};\n")
    ∷ text (ascii "d") 8 1 (some (negsuc 2147483647, pos 2147483647)) (255 ∷ 0 ∷ 0 ∷ 255 ∷ 255 ∷ 0 ∷ 0 ∷ 0 ∷ []) 136
    (ascii "#define d_width 8\n#define d_height 1\n#define d_x_hot -2147483648\n#define d_y_hot 2147483647\nstatic unsigned char d_bits[] = {\n   0xe6};\n")
    ∷ []

-- the order of checking: each row breaks its own rule and every later one that it can; and what is no fault
abbrev answers : List Row
answers =
    refused (ascii "a b") 0 1 (7 ∷ []) 0 51
    ∷ refused (ascii "a\tb") 9 1 nine 100 51
    ∷ refused (ascii "a\n") 9 1 nine 100 51
    ∷ refused (replicate 251 97) 0 0 [] 0 51
    ∷ refused (replicate 251 97) 9 1 nine 900 51
    ∷ refused (ascii "d") 0 0 [] 0 52
    ∷ refused (ascii "d") 0 1 [] 100 52
    ∷ refused (ascii "d") 9 0 (7 ∷ []) 0 52
    ∷ refused (ascii "d") 9 1 (7 ∷ []) 0 53
    ∷ refused (ascii "d") 9 1 (nine ++ (255 ∷ [])) 100 53
    ∷ refused (ascii "d") 4294967295 4294967295 (7 ∷ []) 0 53
    ∷ refused (ascii "d") 2 1 (0 ∷ 7 ∷ []) 0 54
    ∷ refused (ascii "d") 9 1 nine 86 55
    ∷ refused (ascii "d") 9 1 nine 0 55
    ∷ text (13 ∷ []) 9 1 none nine 87
    (joined (ascii "#define " ∷ (13 ∷ []) ∷ ascii "_width 9\n#define " ∷ (13 ∷ []) ∷ ascii "_height 1\nstatic unsigned char " ∷ (13 ∷ []) ∷ ascii "_bits[] = {\n   0x01, 0x00};\n" ∷ []))
    ∷ text (replicate 250 97) 9 1 none nine 834
    (joined (ascii "#define " ∷ replicate 250 97 ∷ ascii "_width 9\n#define " ∷ replicate 250 97 ∷ ascii "_height 1\nstatic unsigned char " ∷ replicate 250 97 ∷ ascii "_bits[] = {\n   0x01, 0x00};\n" ∷ []))
    ∷ []

pub text-table : map given texts ≡ map (λ r. r.wanted) texts
unfolding writing wrong fault written head_text packed_at joined digits
text-table = refl

pub answer-table : map given answers ≡ map (λ r. r.wanted) answers
unfolding writing wrong fault written head_text packed_at joined digits
answer-table = refl
