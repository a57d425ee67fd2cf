-- What the program's one call promises, with document 01's figures: a text of 65,536 bytes, a symbol of 256, a picture of 65,536 cells.
use Rattle.std.specs.Prelude.{ℕ, ◌≤◌, ◌<◌, ◌≡◌, List, length, take, drop}
use Rattle.text.specs.Ascii.{ascii}
use Rattle.text.specs.Place.{start}
use Rattle.header.specs.Header.{header}
use Rattle.image.specs.Limited.{after_header}
use Rattle.listing.specs.Listing.{listed_of, listed, listing}

-- the first n bytes of a buffer are the input, or as much of it as the buffer has room for
abbrev pub Holds : List ℕ → ℕ → List ℕ → Type 0
Holds text n input = take n text ≡ take (length text) input

-- an input is listed, with a lent name buffer and lent cells, at the start of a lent output
pub record Prints (input name cells out name' cells' out' : List ℕ) (r : ℕ) : Type 0 where
  -- the first r bytes are the whole listing, the others as lent
  pub whole : take r out' ≡ listing input name cells
  pub others : drop r out' ≡ drop r out
  -- an input above 65,536 bytes is seen as such; any other is read, with limits of 256 bytes on the width's symbol and 65,536 cells
  pub long : 65536 < length input → take r out' ≡ ascii "refused 41\n"
  pub short : length input ≤ 65536 → listed input name cells ≡ listed_of (after_header 65536 input name cells (header 256 input start))
  pub named : name' ≡ (listed input name cells).symbol
  pub filled : cells' ≡ (listed input name cells).cells

-- whatever the input is
pub record ListsInput (text : List ℕ) (n : ℕ) (name cells out name' cells' out' : List ℕ) (r : ℕ) : Type 0 where
  pub prints : (input : List ℕ) → Holds text n input → Prints input name cells out name' cells' out' r
  -- a name buffer of 256 bytes, and as many cells as a picture may have
  pub symbol : length name ≡ 256
  pub picture : length cells ≡ 65536
  pub within : r ≤ length out'
