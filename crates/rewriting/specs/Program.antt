-- What the rewriting program's one call promises, with document 01's figures: a text of 65,536 bytes, a symbol of 256, a picture of 65,536 cells.
use Rattle.std.specs.Prelude.{ℕ, ◌≤◌, ◌≡◌, List, length}
use Rattle.print.specs.Output.{output}
use Rattle.listing.specs.Listing.{listed}
use Rattle.program.specs.Program.{Holds}
use Rattle.rewriting.specs.Rewriting.{rewriting}

-- an input is rewritten at the start of a lent output; the two buffers are as the listing leaves them
pub record Renews (input name cells out name' cells' out' : List ℕ) (r : ℕ) : Type 0 where
  pub prints : output out' r ≡ rewriting 65536 65536 input name cells out
  pub named : name' ≡ (listed input name cells).symbol
  pub filled : cells' ≡ (listed input name cells).cells

-- whatever the input is
pub record RewritesInput (text : List ℕ) (n : ℕ) (name cells out name' cells' out' : List ℕ) (r : ℕ) : Type 0 where
  pub prints : (input : List ℕ) → Holds text n input → Renews input name cells out name' cells' out' r
  -- a name buffer of 256 bytes, as many cells as a picture may have, and room for its text
  pub symbol : length name ≡ 256
  pub picture : length cells ≡ 65536
  pub room : length out ≡ 411140
  pub within : r ≤ length out'
