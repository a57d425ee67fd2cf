-- Proof devices: a mask's header, and a whole text read as one reader with the mask as its value. No contract and no claim is stated with them.
use Rattle.std.specs.Prelude.{true, List, ℕ}
use Rattle.text.specs.Reader.{Reader, ◌>>=◌, ◌>>◌}
use Rattle.text.specs.Leaf.{give}
use Rattle.header.specs.Header.{Head, header}
use Rattle.body.specs.Data.{items, closing, tail, bytes_of}
use Rattle.grammar.specs.Grammar.{Mask}

abbrev pub head_of : Mask → Head
head_of m = record { name = m.name; width = m.width; height = m.height; hot = m.hot }

abbrev pub made : Head → List ℕ → Mask
made h l = record { name = h.name; width = h.width; height = h.height; hot = h.hot; bytes = l }

-- the data bytes, and what follows them up to the semicolon
unfoldable pub body : Head → Reader (List ℕ)
body h = items (bytes_of h.width h.height) true >>= λ l. closing >> give l

-- up to the semicolon
unfoldable pub front : ℕ → Reader Mask
front lim = header lim >>= λ h. body h >>= λ l. give (made h l)

-- to the end of the text
unfoldable pub text : ℕ → Reader Mask
text lim = front lim >>= λ m. tail >> give m
