-- The theorems about what specs/Room.antt defines.
use Rattle.std.specs.Prelude.{◌≡◌, ℕ, ◌*◌, ◌≤◌, Bool, List, length, leb, ℤ}
use Rattle.std.proofs.Math.Path.{refl}
use native.Mathlib.Omega.{arith}
use Rattle.std.proofs.Math.Bool.{true, false}
use Rattle.std.proofs.Math.Option.{Option}
use Rattle.std.proofs.Math.Dec.{eqb}
use Rattle.std.proofs.Common.{eqb-true, le-leb}
use Rattle.text.specs.Place.{pick}
use Rattle.mask.specs.Fault.{all_cells, fault}
use Rattle.report.specs.Report.{hot_given}
use Rattle.writer.specs.Written.{written}
use Rattle.writer.specs.Writing.{unbroken, name_limit, wrong, stored, refusal, writing}
use Rattle.writer.proofs.Size.{written-short, name-short}
use Rattle.xbm_c.specs.Write.{write_number, WriteCall}
use Rattle.xbm_c.specs.Room.{room_for}

-- what is wrong with a mask is never 55
mask-numbers : (w h : ℕ) (cells : List ℕ) → fault w h cells ≤ 54
unfolding fault
mask-numbers w h cells = go (eqb w 0) (eqb h 0) (eqb (length cells) (w * h)) (all_cells cells)
  where
    go : (a b c d : Bool) → pick a 52 (pick b 52 (pick c (pick d 0 54) 53)) ≤ 54
    go true b c d = omega arith
    go false true c d = omega arith
    go false false true true = omega arith
    go false false true false = omega arith
    go false false false d = omega arith

module _ (name : List ℕ) (w h : ℕ) (cells : List ℕ) where
  numbers : wrong name w h cells ≤ 54
  unfolding wrong
  numbers = go (leb (length name) name_limit) (unbroken name)
    where
      go : (a b : Bool) → pick (pick a b false) (fault w h cells) 51 ≤ 54
      go true true = mask-numbers w h cells
      go true false = omega arith
      go false b = omega arith

  module _ (hot : Option (ℤ × ℤ)) where
    -- a text of a mask with which nothing is wrong
    text-length : wrong name w h cells ≡ 0 → length (written name w h hot cells) ≤ room_for w h
    text-length k = omega (arith, written-short name w h hot cells (name-short name w h cells k))

    roomy : (out : List ℕ) → room_for w h ≤ length out → write_number (writing name w h hot cells out).answer ≤ 54
    unfolding writing
    roomy out l = go (eqb (wrong name w h cells) 0) refl
      where
        go : (t : Bool) → eqb (wrong name w h cells) 0 ≡ t → write_number (pick t (stored (written name w h hot cells) out) (refusal (wrong name w h cells) out)).answer ≤ 54
        go true e = rw (le-leb (length (written name w h hot cells)) (length out) (omega (arith, text-length (eqb-true (wrong name w h cells) 0 e)))) (omega arith)
        go false e = numbers

-- a call with so much room is answered 0, or refused for its mask
pub enough : (name : List ℕ) (w h has : ℕ) (x y : ℤ) (cells out out' : List ℕ) (length' r : ℕ) → WriteCall name w h has x y cells out out' length' r → room_for w h ≤ length out → r ≤ 54
enough name w h has x y cells out out' length' r c l = omega (arith, c.number, roomy name w h cells (hot_given has x y) out l)
