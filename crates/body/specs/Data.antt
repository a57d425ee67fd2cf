-- The data bytes and the trailer.
use Rattle.std.specs.Prelude.{ℕ, zero, suc, ◌+◌, ◌*◌, ◌/◌, List, [], ◌∷◌, Bool, true, false}
use Rattle.text.specs.Ascii.{ascii}
use Rattle.text.specs.declared.TextLocation.{TextLocation}
use Rattle.text.specs.Reader.{Result, ok, stop, bad, Reader, ◌>>=◌, ◌>>◌}
use Rattle.text.specs.Leaf.{give, fork, eot}
use Rattle.lexical.specs.Lexical.{is_loose, skip, byte, is, fixed}
use Rattle.hexadecimal.specs.Hex.{hex_byte}

-- a data byte: loose space before it, and before each but the first a comma after loose space
unfoldable pub item : Bool → Reader ℕ
item true = skip is_loose >> hex_byte 6
item false = skip is_loose >> byte 6 (is 44) >> skip is_loose >> hex_byte 6

-- k data bytes
unfoldable pub items : ℕ → Bool → Reader (List ℕ)
items zero first = give []
items (suc k) first = item first >>= λ b. items k false >>= λ l. give (b ∷ l)

-- one comma at most, and the brace
unfoldable pub brace : Reader (Unit {0})
brace = fork 7 44 (byte 7 (is 44) >> skip is_loose >> fixed 7 (ascii "}")) 125 (fixed 7 (ascii "}"))

-- what follows the last data byte, up to the semicolon
unfoldable pub closing : Reader (Unit {0})
closing = skip is_loose >> brace >> skip is_loose >> fixed 7 (ascii ";")

-- what follows the semicolon
unfoldable pub tail : Reader (Unit {0})
tail = skip is_loose >> eot 8

unfoldable pub trailer : Reader (Unit {0})
trailer = closing >> tail

-- the bytes of a row, and of a picture
abbrev pub row_bytes : ℕ → ℕ
row_bytes w = (w + 7) / 8

abbrev pub bytes_of : ℕ → ℕ → ℕ
bytes_of w h = row_bytes w * h

-- the data bytes read, with the place after each
abbrev pub Log : Type 0
Log = List (ℕ × TextLocation)

abbrev pub logged : Result ℕ → (TextLocation → Log) → Log
logged (ok b e) r = (b, e) ∷ r e
logged (stop c e) r = []
logged (bad c e) r = []

unfoldable pub log_of : ℕ → Bool → List ℕ → TextLocation → Log
log_of zero first t i = []
log_of (suc k) first t i = logged (item first t i) (λ e. log_of k false t e)
