-- Two answers between which nothing differs are alike in every number, but that an integer's fault, which ours tells, counts as the original's one number.
use Rattle.std.specs.Prelude.{ℕ, ◌≤◌, ◌<◌, ◌≡◌, ◌⊎◌}
use Rattle.stored.specs.declared.Told.{Told}

-- our number beside the original's
pub data Counts (ours original : ℕ) : Type 0 where
  width : original ≡ 11 → 111 ≤ ours → ours ≤ 114 → Counts ours original
  height : original ≡ 12 → 121 ≤ ours → ours ≤ 124 → Counts ours original
  x-hot : original ≡ 13 → 131 ≤ ours → ours ≤ 134 → Counts ours original
  y-hot : original ≡ 14 → 141 ≤ ours → ours ≤ 144 → Counts ours original
  other : (original < 11) ⊎ (14 < original) → ours ≡ original → Counts ours original

pub record Alike (a b : Told) : Type 0 where
  pub number : Counts a.number b.number
  pub place : a.place ≡ b.place
  pub sides : a.sides ≡ b.sides
  pub hotspot : a.hotspot ≡ b.hotspot
  pub name : a.name ≡ b.name
  pub «pixel-sum» : a.pixel_sum ≡ b.pixel_sum
