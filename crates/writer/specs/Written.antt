-- The text that is written of a mask: document 02's layout.
use Rattle.std.specs.Prelude.{ℕ, List, [], ◌∷◌, ℤ}
use Rattle.std.proofs.Math.Option.{Option}
use Rattle.text.specs.Ascii.{ascii}
use Rattle.print.specs.Output.{joined}
use Rattle.data_text.specs.Packed.{packed}
use Rattle.data_text.specs.DataText.{data_text}
use Rattle.header_text.specs.HeaderText.{head_text}

-- a header, the data bytes, and the end right after the last one
abbrev pub whole_text : List ℕ → List ℕ → List ℕ
whole_text head bytes = joined (head ∷ data_text 0 bytes ∷ ascii "};\n" ∷ [])

-- the whole text
unfoldable pub written : List ℕ → ℕ → ℕ → Option (ℤ × ℤ) → List ℕ → List ℕ
written name w h hot cells = whole_text (head_text name w h hot) (packed w h cells)
