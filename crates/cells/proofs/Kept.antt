-- What no data byte reaches: a remainder shorter than a row, and the cells of rows past the picture.
use Rattle.std.specs.Prelude.{◌≡◌, refl, ℕ, zero, suc, ◌*◌, ◌/◌, ◌≤◌, ◌<◌, min, Bool, false, List, [], ◌∷◌, length}
use Rattle.std.proofs.Common.{arith, mul-le-mul_right, le_of_suc-le-suc, not-suc-le-zero}
use Rattle.std.proofs.Math.Nat.{le-div_iff_mul-le}
use Rattle.std.proofs.Math.Option.{none}
use Rattle.text.specs.declared.TextLocation.{TextLocation}
use Rattle.text.specs.Reader.{Result, ok, stop, bad}
use Rattle.body.specs.Data.{item, Log, logged, log_of, row_bytes}
use Rattle.cells.specs.Cells.{byte_for, byte_at, cell, count}

pub at-past : (l : Log) (k : ℕ) → length l ≤ k → byte_at l k ≡ none
at-past [] k h = refl
at-past (x ∷ l) zero h = absurd (not-suc-le-zero h)
at-past (x ∷ l) (suc k) h = at-past l k (le_of_suc-le-suc h)

log-length : (k : ℕ) (f : Bool) (t : List ℕ) (i : TextLocation) → length (log_of k f t i) ≤ k
unfolding log_of
log-length zero f t i = omega arith
log-length (suc k) f t i = go (item f t i) (λ e. log-length k false t e)
  where
    go : (r : Result ℕ) → ((e : TextLocation) → length (log_of k false t e) ≤ k) → length (logged r (λ e. log_of k false t e)) ≤ suc k
    go (ok b e) h = omega (arith, h e)
    go (stop c e) h = omega arith
    go (bad c e) h = omega arith

-- a cell past m whole rows is no cell of theirs
past : (w m c : ℕ) → 0 < w → m * w ≤ c → m ≤ c / w
past w m c hw h = (le-div_iff_mul-le hw).1 h

pub kept : (w h n : ℕ) (f : Bool) (t : List ℕ) (i : TextLocation) (c x : ℕ) → 0 < w → min (n / w) h * w ≤ c → cell w (log_of (count w h n) f t i) c x ≡ x
unfolding cell
kept w h n f t i c x hw l =
    rw
    (at-past (log_of (count w h n) f t i) (byte_for w c)
    (omega (arith, log-length (count w h n) f t i, mul-le-mul_right (row_bytes w) (past w (min (n / w) h) c hw l))))
