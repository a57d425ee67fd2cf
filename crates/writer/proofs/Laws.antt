-- What a step of the code says of what is written.
use mathlib.Core.Path.{◌≡◌, refl, sym, ap, ◌∙◌}
use Prim.Native.Nat.{ℕ, ◌+◌, ◌/◌, ◌^◌, ◌≤◌, ◌<◌}
use native.Mathlib.Omega.{arith}
use native.Mathlib.Nat.{mul-le-mul_right}
use mir.Syntax.{w64}
use mir.Val.{Fits}
use mathlib.Core.Bool.{Bool, true, false, not}
use mathlib.Core.Option.{Option}
use mathlib.Core.List.{List, ◌++◌}
use lib.ListN.{length, length-take, length-replicate, replicate, take, drop}
use lib.Seq.{take-append_seam}
use lib.Dec.{eqb}
use lib.IntN.{ℤ}
use borrow.Author.Tests.{le-leb, lt-leb}
use Rattle.text.specs.Place.{pick}
use Rattle.lexical.specs.Lexical.{is_blank, is_loose}
use Rattle.body.specs.Data.{bytes_of}
use Rattle.print.specs.Output.{Output, output, puts}
use Rattle.print.proofs.Output.{puts-start}
use Rattle.data_text.specs.Packed.{packed}
use Rattle.data_text.specs.DataText.{data_length}
use Rattle.header_text.specs.HeaderText.{head_text}
use Rattle.header_text.proofs.Size.{head-short}
use Rattle.writer.specs.Written.{whole_text, written}
use Rattle.writer.proofs.Size.{written-length, name-short}
use Rattle.writer.specs.Writing.{breaks, unbroken, wrong, stored, told_writing}
use Rattle.writer.specs.declared.XbmEncodeError.TheVariants.{ShortOutput}
use Rattle.std.specs.Prelude.{[], ◌∷◌, ◌&&◌, Ok, Err}
use Rattle.std.specs.List.{list_all}

-- ---- names

-- the reader's loose space is what no name may hold
breaks-is : (b : ℕ) → is_loose b ≡ breaks b
unfolding is_loose is_blank
breaks-is b = go (eqb b 32)
  where
    go : (t : Bool) → pick (pick t true (eqb b 9)) true (eqb b 10) ≡ pick t true (pick (eqb b 9) true (eqb b 10))
    go true = refl
    go false = refl

pub unbroken_is : (name : List ℕ) → list_all (λ b. not (is_loose b)) name ≡ unbroken name
unbroken_is [] = refl
unbroken_is (b ∷ w) = rw (unbroken_is w, breaks-is b) (go (breaks b))
  where
    go : (t : Bool) → not t && unbroken w ≡ pick t false (unbroken w)
    go true = refl
    go false = refl

-- ---- a mask with which nothing is wrong

-- the data bytes of a picture are not more than their number can tell
data-small : (w h : ℕ) → w < 2 ^ 32 → h < 2 ^ 32 → data_length (bytes_of w h) + 1539 < 2 ^ 64
data-small w h a b = omega (arith, mul-le-mul_right {m = (w + 7) / 8} {n = 536870912} h (omega arith))

module _ (name : List ℕ) (w h : ℕ) (cells : List ℕ) (k : wrong name w h cells ≡ 0) (hot : Option (ℤ × ℤ)) {s' : List ℕ} {n : ℕ}
    (p : output s' n ≡ puts (head_text name w h hot) (output (replicate 1536 0) 0)) where
  short : length (head_text name w h hot) ≤ 1536
  short = head-short name w h hot (name-short name w h cells k)

  head-is : output s' n ≡ output (head_text name w h hot ++ drop (length (head_text name w h hot)) (replicate 1536 0)) (length (head_text name w h hot))
  head-is = p ∙ puts-start (head_text name w h hot) (replicate 1536 0) (omega (arith, short, length-replicate {A = ℕ} 1536 0))

  size_is : n ≡ length (head_text name w h hot)
  size_is = ap (λ (o : Output). o.at) head-is

  part-is : take n s' ≡ head_text name w h hot
  part-is =
      let e : s' ≡ head_text name w h hot ++ drop (length (head_text name w h hot)) (replicate 1536 0) = ap (λ (o : Output). o.bytes) head-is in
      rw (e, size_is) (take-append_seam (head_text name w h hot) _)

  pub head-within : n ≤ length s'
  head-within = omega (arith, size_is, ap length part-is, length-take n s')

  pub head-part : n ≡ length (take n s')
  head-part = size_is ∙ sym (ap length part-is)

  module _ {m : ℕ} (e : m ≡ data_length (bytes_of w h)) where
    pub data-fits : w < 2 ^ 32 → h < 2 ^ 32 → Fits w64 (n + m)
    data-fits a b = record { fits = omega (arith, size_is, short, data-small w h a b) }

    pub end_fits : w < 2 ^ 32 → h < 2 ^ 32 → Fits w64 (n + m + 3)
    end_fits a b = record { fits = omega (arith, size_is, short, data-small w h a b) }

    whole_length : n + m + 3 ≡ length (written name w h hot cells)
    whole_length = omega (arith, e, size_is, written-length name w h hot cells)

    module _ (out : List ℕ) where
      pub stored_short : length out < n + m + 3 → told_writing (Err ShortOutput) out ≡ stored (written name w h hot cells) out
      stored_short l = rw (lt-leb (length (written name w h hot cells)) (length out) (omega (arith, whole_length)))

      pub stored-long : {out' : List ℕ} {r : ℕ} → n + m + 3 ≤ length out → output out' r ≡ puts (whole_text (take n s') (packed w h cells)) (output out 0) → told_writing (Ok r) out' ≡ stored (written name w h hot cells) out
      unfolding written
      stored-long {out'} {r} l g =
          let t : whole_text (take n s') (packed w h cells) ≡ written name w h hot cells = rw part-is in
          let fits : length (written name w h hot cells) ≤ length out = omega (arith, whole_length) in
          let u : output out' r ≡ output (written name w h hot cells ++ drop (length (written name w h hot cells)) out) (length (written name w h hot cells)) = g ∙ ap (λ (x : List ℕ). puts x (output out 0)) t ∙ puts-start (written name w h hot cells) out fits in
          rw (ap (λ (o : Output). o.at) u, ap (λ (o : Output). o.bytes) u, le-leb (length (written name w h hot cells)) (length out) fits)

pub ruleset sound_laws = (head-within, head-part, data-fits, end_fits, stored_short, stored-long)
