-- The theorems about what specs/WriteExamples.antt defines.
use Rattle.std.specs.Prelude.{ℕ, ◌≡◌, refl, List, [], ◌∷◌, ◌++◌, map, replicate, ℤ, pos, negsuc}
use Rattle.text.specs.Ascii.{ascii}
use Rattle.mask.specs.Fault.{fault}
use Rattle.print.specs.Decimal.{digits}
use Rattle.print.specs.Output.{joined}
use Rattle.data_text.specs.Packed.{packed_at}
use Rattle.header_text.specs.HeaderText.{head_text}
use Rattle.writer.specs.Written.{written}
use Rattle.writer.specs.Writing.{wrong, writing}
use Rattle.xbm_c.specs.Write.{write_number, write_length, writing_given, WriteCall}
use Rattle.xbm_c.specs.WriteExamples.{Numbers}

-- what is lent, as C gives it, and the numbers
record Row : Type 0 where
  name : List ℕ
  width : ℕ
  height : ℕ
  has : ℕ
  x : ℤ
  y : ℤ
  cells : List ℕ
  out : List ℕ
  answer : Numbers

-- the same by the definitions
abbrev told : List ℕ → ℕ → ℕ → ℕ → ℤ → ℤ → List ℕ → List ℕ → Numbers
told name w h has x y cells out = record {
  result = write_number (writing_given name w h has x y cells out).answer;
  length = write_length (writing_given name w h has x y cells out).answer;
  output = (writing_given name w h has x y cells out).bytes;
}

-- a call hands back these numbers, as its contract says
pub call-told : (name : List ℕ) (w h has : ℕ) (x y : ℤ) (cells out out' : List ℕ) (length' r : ℕ) → WriteCall name w h has x y cells out out' length' r
    → record { result = r; length = length'; output = out' } ≡ told name w h has x y cells out
call-told name w h has x y cells out out' length' r c = rw (c.number, c.length, c.bytes)

-- nine cells, the first of them ink
abbrev nine : List ℕ
nine = 0 ∷ replicate 8 255

-- document 01's M without a hotspot, and with one at 3 -1
abbrev plain : List ℕ
plain = ascii "#define d_width 9\n#define d_height 1\nstatic unsigned char d_bits[] = {\n   0x01, 0x00};\n"

abbrev spotted : List ℕ
spotted = ascii "#define d_width 9\n#define d_height 1\n#define d_x_hot 3\n#define d_y_hot -1\nstatic unsigned char d_bits[] = {\n   0x01, 0x00};\n"

-- the mask named d with the hotspot 3 -1 where the flag says so; a flag and the bytes of output lent, all 7; the result, the length and the output
abbrev spot : ℕ → ℕ → ℕ → ℕ → List ℕ → Row
spot has n r l later = record { name = ascii "d"; width = 9; height = 1; has = has; x = pos 3; y = negsuc 0; cells = nine; out = replicate n 7; answer = record { result = r; length = l; output = later } }

-- refused: a name, sides and cells, and the result; the output stays
abbrev no_mask : List ℕ → ℕ → ℕ → List ℕ → ℕ → Row
no_mask name w h cells r = record { name = name; width = w; height = h; has = 1; x = pos 3; y = negsuc 0; cells = cells; out = 7 ∷ 8 ∷ []; answer = record { result = r; length = 0; output = 7 ∷ 8 ∷ [] } }

abbrev rows : List Row
rows =
    -- with no hotspot, whatever its numbers are; with one, by any flag but 0
    spot 0 90 0 87 (plain ++ (7 ∷ 7 ∷ 7 ∷ []))
    ∷ spot 1 125 0 124 (spotted ++ (7 ∷ []))
    ∷ spot 7 125 0 124 (spotted ++ (7 ∷ []))
    ∷ spot 4294967295 124 0 124 spotted
    -- a name with a blank, a side of zero, one cell too few, a cell that is none
    ∷ no_mask (ascii "a b") 0 1 (7 ∷ []) 51
    ∷ no_mask (ascii "d") 9 0 [] 52
    ∷ no_mask (ascii "d") 3 1 (0 ∷ 255 ∷ []) 53
    ∷ no_mask (ascii "d") 2 1 (0 ∷ 7 ∷ []) 54
    -- one byte too few
    ∷ spot 1 123 55 0 (replicate 123 7)
    ∷ spot 0 86 55 0 (replicate 86 7)
    ∷ []

abbrev says : Row → Numbers
says r = told r.name r.width r.height r.has r.x r.y r.cells r.out

pub write-table : map says rows ≡ map (λ r. r.answer) rows
unfolding writing wrong fault written head_text packed_at joined digits
write-table = refl
