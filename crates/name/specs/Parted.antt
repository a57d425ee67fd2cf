-- The name handed back as a part of the lent name buffer, and what the buffer holds later.
use Rattle.std.specs.Prelude.{◌≡◌, ℕ, List, [], ◌++◌, length, take, drop}
use Rattle.text.specs.Place.{start}
use Rattle.text.specs.Reader.{Result, ok, stop, bad}
use Rattle.lexical.specs.Token.{overlay}
use Rattle.symbol.specs.Symbol.{stored}
use Rattle.header.specs.Header.{Head, header}
use Rattle.header.specs.Answer.{name_length}

-- the name handed back: an accepted header's, and none of a refused one
abbrev pub handed : Result Head → List ℕ
handed (ok h e) = h.name
handed (stop c e) = []
handed (bad c e) = []

-- the header of a text, read with a lent name buffer
abbrev pub header_for : List ℕ → List ℕ → Result Head
header_for text lent = header (length lent) text start

-- the later name buffer: the symbol's bytes stored so far, the rest as lent
abbrev pub later_buffer : List ℕ → List ℕ → List ℕ
later_buffer text lent = overlay (stored (length lent) text) lent

-- reading the header into a lent buffer: the name's n bytes stand at the start of the later buffer
pub record Stored (text lent later : List ℕ) (n : ℕ) : Type 0 where
  pub size : n ≡ name_length (header_for text lent)
  pub name : take n later ≡ handed (header_for text lent)
  pub symbol : later ≡ later_buffer text lent

-- the buffer parted behind the name: the name, what follows it, and the two together
pub record Parted (text lent front back : List ℕ) : Type 0 where
  pub name : front ≡ handed (header_for text lent)
  pub rest : back ≡ drop (name_length (header_for text lent)) (later_buffer text lent)
  pub whole : front ++ back ≡ later_buffer text lent
