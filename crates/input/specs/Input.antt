-- What is known of an input that was read. Which bytes come is known where the reader says what it has left; no contract can say it of C's.
use Rattle.std.specs.Prelude.{ℕ, ◌<◌, ◌≤◌, List, length, take, Option, Result, MatchResult}
use Rattle.std.specs.Io.KnownBytes.{Consumes, IsAtEnd}

-- the whole input: what came is what the reader had first, and it has none left unless the buffer is full.
-- Where a read failed, what came before it stands at the buffer's start.
abbrev pub Brings : {E : Type 0} → Option (List ℕ) → Option (List ℕ) → Result ℕ E → List ℕ → Type 0
Brings old new r buf =
    MatchResult r
    (λ n. Consumes old new (take n buf) × (n < length buf → IsAtEnd new))
    (λ e. (n : ℕ) × (n ≤ length buf) × Consumes old new (take n buf))
