-- What a step of the code does to the lent buffer: it puts the bytes of `w`, and the buffer stays the same.
use Rattle.std.specs.Prelude.{◌≡◌, List, ℕ}
use Rattle.print.specs.declared.Buffer.{Buffer}
use Rattle.print.specs.Output.{Output, output, puts}

abbrev pub held : Buffer → Output
held o = output o.bytes.now o.at

pub record Puts (w : List ℕ) (before after : Buffer) : Type 0 where
  pub same : after.bytes.ghost_name ≡ before.bytes.ghost_name
  pub gives : held after ≡ puts w (held before)

-- the bytes of w are put from the buffer's start on: what it then holds, and n of them are there, those for which there is room
abbrev pub PutsAll : List ℕ → List ℕ → List ℕ → ℕ → Type 0
PutsAll w before after n = output after n ≡ puts w (output before 0)
