-- The width's symbol, a name and `_width`: what precedes it, the name in it, and the bytes that reading it stores.
use Rattle.std.specs.Prelude.{ℕ, ◌-◌, ◌≤◌, ◌≡◌, Bool, true, false, List, [], ◌∷◌, length, take, drop, leb, eqb, Result as Answer, Ok, Err}
use Rattle.std.specs.Borrow.{Bor}
use Rattle.std.proofs.Math.Option.{Option, none, some}
use Rattle.text.specs.Ascii.{ascii}
use Rattle.text.specs.Place.{pick, start}
use Rattle.text.specs.Reader.{Result, ok, stop, bad, end_of, Reader, ◌>>=◌, ◌>>◌}
use Rattle.text.specs.Leaf.{want}
use Rattle.lexical.specs.Lexical.{is_loose, fixed, gap, leading}
use Rattle.text.specs.declared.TextLocation.{TextLocation}
use Rattle.text.specs.declared.TextReader.{TextReader}
use Rattle.lexical.specs.declared.XbmPart.{XbmPart}
use Rattle.lexical.specs.Token.{token, span, overlay}
use Rattle.lexical.specs.Reads.{Reads, lent}

-- ---- words

abbrev pub hash_define : List ℕ
hash_define = ascii "#define"

abbrev pub end_width : List ℕ
end_width = ascii "_width"

abbrev pub same_bytes : List ℕ → List ℕ → Bool
same_bytes [] [] = true
same_bytes [] (y ∷ b) = false
same_bytes (x ∷ a) [] = false
same_bytes (x ∷ a) (y ∷ b) = pick (eqb x y) (same_bytes a b) false

unfoldable pub ends_with : List ℕ → List ℕ → Bool
ends_with w z = pick (leb (length z) (length w)) (same_bytes (drop (length w - length z) w) z) false

-- what precedes the ending z
unfoldable pub before : List ℕ → List ℕ → Option (List ℕ)
before z w = pick (ends_with w z) (some (take (length w - length z) w)) none

-- ---- the symbol

-- what precedes the width's symbol
unfoldable pub opening : Reader (Unit {0})
opening = leading 1 true >> fixed 1 hash_define >> gap 1

-- the name in the width's symbol
unfoldable pub width_symbol : ℕ → Reader (List ℕ)
width_symbol limit = opening >> token is_loose 1 limit >>= λ s. want 1 (before end_width s)

-- the symbol's bytes that reading a text stores: those taken from where the symbol starts, none where nothing opens it
abbrev pub stored_in : ℕ → List ℕ → Result (Unit {0}) → List ℕ
stored_in limit t (ok a i) = span t i (end_of (token is_loose 1 limit t i))
stored_in limit t (stop c e) = []
stored_in limit t (bad c e) = []

-- where reading begins at a place; and at the text's start
abbrev pub stored_from : TextLocation → ℕ → List ℕ → List ℕ
stored_from p limit t = stored_in limit t (opening t p)

unfoldable pub stored : ℕ → List ℕ → List ℕ
stored limit t = stored_from start limit t

-- the name answered, none of a refusal
abbrev pub name_in : Answer (Bor (List ℕ)) XbmPart → List ℕ
name_in (Ok s) = s.now
name_in (Err x) = []

-- reading the width's symbol into a lent buffer: the name in it, which is also the start of what the buffer holds later; and the buffer later
pub record Symboled (old new : TextReader) (buffer later : List ℕ) (r : Answer (Bor (List ℕ)) XbmPart) : Type 0 where
  pub reads : Reads (width_symbol (length buffer)) old new (lent r)
  pub named : take (length (name_in r)) later ≡ name_in r
  pub fits : length (name_in r) ≤ length later
  pub symbol : later ≡ overlay (stored_from old.location (length buffer) old.text.now) buffer
