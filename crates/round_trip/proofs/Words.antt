-- Words put together, bytes packed, and cells found: what several proofs here rest on.
use Rattle.std.specs.Prelude.{◌≡◌, refl, ℕ, zero, suc, ◌<◌, List, [], ◌∷◌, ◌++◌, get_or}
use Rattle.std.proofs.Common.{arith}
use Rattle.std.proofs.Math.Option.{some}
use Rattle.std.proofs.Math.ListN.{get_elem?}
use Rattle.data_text.specs.Packed.{packed_from}
use Rattle.data_text.proofs.Bits.{byte_small}
use Rattle.grammar.specs.Lang.{Lang, Word, ◌·◌}

-- a word of the one and then a word of the other
pub cat : (K L : Lang) (u v : List ℕ) → K u → L v → (K · L) (u ++ v)
unfolding ◌·◌
cat K L u v k l = (u, v, refl, k, l)

pub quoted : (w : List ℕ) → Word w w
unfolding Word
quoted w = refl

-- each is a byte
abbrev pub Bytes : List ℕ → Type 0
Bytes [] = Unit {0}
Bytes (b ∷ l) = (b < 256) × Bytes l

pub packed-bytes : (w : ℕ) (cells : List ℕ) (k n : ℕ) → Bytes (packed_from w cells k n)
packed-bytes w cells k zero = tt
packed-bytes w cells k (suc n) = (byte_small w cells k, packed-bytes w cells (suc k) n)

-- what stands somewhere is not another number instead
pub at-cell : (l : List ℕ) (c d x : ℕ) → get_elem? l c ≡ some x → get_or l c d ≡ x
at-cell [] c d x e = let z : ◌≡◌ {A = ℕ} 0 1 = cc in absurd (omega arith)
at-cell (b ∷ l) zero d x e = cc
at-cell (b ∷ l) (suc c) d x e = at-cell l c d x e
