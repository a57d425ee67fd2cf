-- The header, as one reading after another.
use Rattle.std.specs.Prelude.{ℕ, true, List, ℤ}
use Rattle.std.proofs.Math.Option.{Option, none, some}
use Rattle.text.specs.Ascii.{ascii}
use Rattle.text.specs.Reader.{Reader, ◌>>=◌, ◌>>◌}
use Rattle.text.specs.Leaf.{give, fork}
use Rattle.lexical.specs.Lexical.{leading}
use Rattle.lines.specs.Lines.{signed, side, line, width_line, array_line}

-- what a header says
pub record Head : Type 0 where
  pub name : List ℕ
  pub width : ℕ
  pub height : ℕ
  pub hot : Option (ℤ × ℤ)

-- the array line, and then the header is known
abbrev pub ending : List ℕ → ℕ → ℕ → Option (ℤ × ℤ) → Reader Head
ending name w h o = array_line 5 name >> give (record { name = name; width = w; height = h; hot = o })

-- the two lines of a hotspot
abbrev pub hotspot : {A : Type 0} → List ℕ → (ℤ → ℤ → Reader A) → Reader A
hotspot name k = line 3 name (ascii "_x_hot") (signed 130) >>= λ x. line 4 name (ascii "_y_hot") (signed 140) >>= λ y. k x y

-- after the height line: `#` opens the hotspot, `s` the array line
unfoldable pub rest : List ℕ → ℕ → ℕ → Reader Head
rest name w h = fork 5 35 (hotspot name (λ x y. ending name w h (some (x, y)))) 115 (ending name w h none)

-- the header up to and including the opening brace
unfoldable pub header : ℕ → Reader Head
header limit = leading 1 true >> width_line limit >>= λ nw. line 2 nw.0 (ascii "_height") (side 120 22) >>= λ h. rest nw.0 nw.1 h
