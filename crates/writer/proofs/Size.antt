-- How long a written text is at most.
use Rattle.std.specs.Prelude.{ℕ, ◌+◌, ◌≤◌, ◌≡◌, refl, Bool, true, false, List, length, leb, ℤ}
use Rattle.std.proofs.Common.{arith, leb-true}
use Rattle.std.proofs.Math.Option.{Option}
use Rattle.text.specs.Ascii.{ascii}
use Rattle.text.specs.Place.{pick}
use Rattle.body.specs.Data.{bytes_of}
use Rattle.mask.specs.Fault.{fault}
use Rattle.print.proofs.Output.{length-joined-three}
use Rattle.data_text.specs.Packed.{packed}
use Rattle.data_text.specs.DataText.{data_text, data_length}
use Rattle.data_text.proofs.Size.{packed-text-length}
use Rattle.header_text.specs.HeaderText.{head_text}
use Rattle.header_text.proofs.Size.{head-short}
use Rattle.writer.specs.Written.{written}
use Rattle.writer.specs.Writing.{unbroken, name_limit, wrong}

-- the header, the data bytes, and the end
pub written-length : (name : List ℕ) (w h : ℕ) (hot : Option (ℤ × ℤ)) (cells : List ℕ)
    → length (written name w h hot cells) ≡ length (head_text name w h hot) + data_length (bytes_of w h) + 3
unfolding written
written-length name w h hot cells =
    omega (arith, packed-text-length w h cells, length-joined-three (head_text name w h hot) (data_text 0 (packed w h cells)) (ascii "};\n"))

-- a header of the longest name has at most 1,536 bytes
pub written-short : (name : List ℕ) (w h : ℕ) (hot : Option (ℤ × ℤ)) (cells : List ℕ) → length name ≤ 250
    → length (written name w h hot cells) ≤ 1539 + data_length (bytes_of w h)
written-short name w h hot cells l = omega (arith, written-length name w h hot cells, head-short name w h hot l)

-- what nothing is wrong with has a name of at most 250 bytes
pub name-short : (name : List ℕ) (w h : ℕ) (cells : List ℕ) → wrong name w h cells ≡ 0 → length name ≤ 250
unfolding wrong
name-short name w h cells q = go (leb (length name) name_limit) (unbroken name) refl q
  where
    go : (a b : Bool) → leb (length name) name_limit ≡ a → pick (pick a b false) (fault w h cells) 51 ≡ 0 → length name ≤ 250
    go true b e q = leb-true (length name) name_limit e
    go false b e q = absurd (omega arith)
