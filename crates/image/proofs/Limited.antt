-- The theorems about what specs/Limited.antt defines.
use Rattle.std.specs.Prelude.{◌≡◌, ℕ, ◌≤◌, ◌<◌, List, length, take}
use Rattle.std.proofs.Common.{sym, ap, ◌∙◌, arith, length-take, take_all, lt-ltb, le-ltb}
use Rattle.std.proofs.Math.Decide.{dec_lt}
use Rattle.text.specs.Outcome.{unplaced}
use Rattle.image.specs.Limited.{limited, unread, within}

-- ---- laws

-- a text above the limit is 41
pub within-long : (bytes most : ℕ) (text name cells : List ℕ) → bytes < length text → within bytes most text name cells ≡ unread (unplaced 41) name cells
unfolding within
within-long bytes most text name cells h = rw (lt-ltb bytes (length text) h)

-- any other is read, within the limit on the cells
pub within-short : (bytes most : ℕ) (text name cells : List ℕ) → length text ≤ bytes → within bytes most text name cells ≡ limited most text name cells
unfolding within
within-short bytes most text name cells h = rw (le-ltb bytes (length text) h)

-- the first n bytes of a text are read as the text is, if n is above the limit
pub within-beginning : (bytes most : ℕ) (text name cells : List ℕ) (n : ℕ) → bytes < n → within bytes most (take n text) name cells ≡ within bytes most text name cells
within-beginning bytes most text name cells n h = go (dec_lt n (length text))
  where
    go : Dec (n < length text) → within bytes most (take n text) name cells ≡ within bytes most text name cells
    go (yes l) = within-long bytes most (take n text) name cells (omega (arith, length-take n text)) ∙ sym (within-long bytes most text name cells (omega arith))
    go (no l) = ap (λ (t : List ℕ). within bytes most t name cells) (take_all n text (omega arith))
