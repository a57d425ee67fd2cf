-- The text of data bytes: document 02's layout of them, twelve to a line.
use Rattle.std.specs.Prelude.{ℕ, suc, ◌+◌, ◌-◌, ◌*◌, ◌/◌, ◌%◌, min, List, [], ◌∷◌, ◌++◌, eqb, ltb}
use Rattle.text.specs.Ascii.{ascii}
use Rattle.text.specs.Place.{pick}

-- what stands before data byte k: twelve to a line, counted over the whole picture, and each line led by three spaces
abbrev pub lead_text : ℕ → List ℕ
lead_text k = pick (eqb (k % 12) 0) (pick (eqb k 0) (ascii "\n   ") (ascii ",\n   ")) (ascii ", ")

-- a hex digit, in lower case: 48 is `0`, 97 is `a`
abbrev pub hex_text : ℕ → ℕ
hex_text d = pick (ltb d 10) (48 + d) (97 + (d - 10))

-- `0x` and two digits
abbrev pub byte_text : ℕ → List ℕ
byte_text b = 48 ∷ 120 ∷ hex_text (b / 16) ∷ hex_text (b % 16) ∷ []

-- the data bytes from byte k on
abbrev pub data_text : ℕ → List ℕ → List ℕ
data_text k [] = []
data_text k (b ∷ l) = lead_text k ++ (byte_text b ++ data_text (suc k) l)

-- how long the text of n data bytes is: four bytes each and two before it, two more before the first, three more for each further line
abbrev pub data_length : ℕ → ℕ
data_length n = 6 * n + 2 * min n 1 + 3 * ((n - 1) / 12)
