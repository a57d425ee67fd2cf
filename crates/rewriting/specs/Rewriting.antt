-- What the rewriting program prints of a text: its mask written anew, or the line of its refusal, as the listing prints it.
use Rattle.std.specs.Prelude.{ℕ, ◌≡◌, List, take, Result, Ok, Err}
use Rattle.text.specs.Outcome.{Outcome, accepted, refused, unplaced}
use Rattle.error.specs.declared.Refusal.{Refusal}
use Rattle.error.specs.Error.{told_refusal}
use Rattle.header.specs.Header.{Head}
use Rattle.image.specs.Limited.{cells_of, within}
use Rattle.print.specs.Output.{Output, output, puts}
use Rattle.printing.specs.Printed.{printed}
use Rattle.writer.specs.Writing.{Writing, writing}

-- the line of a refusal at the start of an output
abbrev pub refusal_in : Outcome Head → List ℕ → Output
refusal_in a out = puts (printed a 0) (output out 0)

-- a writing's text, which is there; or the line of its refusal
abbrev pub written_in : Outcome ℕ → List ℕ → Output
written_in (accepted n) out = output out n
written_in (refused c p) out = refusal_in (refused c p) out
written_in (unplaced c) out = refusal_in (unplaced c) out

abbrev pub writing_in : Writing → Output
writing_in w = written_in w.answer w.bytes

-- what is put for a reading's answer and its cells
abbrev pub rewrite_of : Outcome Head → List ℕ → List ℕ → Output
rewrite_of (accepted h) cells out = writing_in (writing h.name h.width h.height h.hot (take (cells_of h) cells) out)
rewrite_of (refused c p) cells out = refusal_in (refused c p) out
rewrite_of (unplaced c) cells out = refusal_in (unplaced c) out

-- of a text, read within limits on its bytes and its cells
unfoldable pub rewriting : ℕ → ℕ → List ℕ → List ℕ → List ℕ → List ℕ → Output
rewriting bytes most text name cells out = rewrite_of (within bytes most text name cells).answer (within bytes most text name cells).pixels out

-- ---- what the code does

-- what is put for an answer: the text that stands in the output, or the line of its refusal
abbrev pub put_for : Result ℕ Refusal → List ℕ → Output
put_for (Ok n) out = output out n
put_for (Err e) out = refusal_in (told_refusal e) out

pub record Rewrites (bytes most : ℕ) (text name cells out name' cells' out' : List ℕ) (r : ℕ) : Type 0 where
  pub prints : output out' r ≡ rewriting bytes most text name cells out
  pub named : name' ≡ (within bytes most text name cells).symbol
  pub filled : cells' ≡ (within bytes most text name cells).pixels
