-- A token's bytes stored one by one at a buffer's start.
use Rattle.std.specs.Prelude.{◌≡◌, refl, ℕ, suc, ◌+◌, ◌≤◌, ◌<◌, List, [], ◌∷◌, ◌++◌, length, take, drop}
use Rattle.std.proofs.Common.{arith, add-one, ap, ◌∙◌, append_assoc, length-append, length-take}
use Rattle.std.proofs.Math.Seq.{take-suc, drop-cons, set-append_seam}
use Rattle.std.proofs.lemmas.List.{take_all}
use lib.ListN.{set, get_or}
use Rattle.lexical.specs.Token.{overlay}

pub storing-none : (w buf : List ℕ) → buf ≡ overlay (take 0 w) buf
storing-none w buf = refl

-- a byte more
module _ (w buf : List ℕ) (i : ℕ) (h : i < length w) (fits : length w ≤ length buf) where
  taken : length (take i w) ≡ i
  taken = omega (arith, length-take i w)

  pub storing_more : {held : List ℕ} → held ≡ overlay (take i w) buf → set held i (get_or w i 0) ≡ overlay (take (i + 1) w) buf
  storing_more {held} e =
      let b = get_or w i 0 in
      let n : length (take i w) ≡ i = taken in
      let k : length (take i w ++ b ∷ []) ≡ suc i = omega (arith, length-append (take i w) (b ∷ []), n) in
      let seam : set (take i w ++ get_or buf i 0 ∷ drop (suc i) buf) (length (take i w)) b ≡ take i w ++ b ∷ drop (suc i) buf = set-append_seam (take i w) (get_or buf i 0) (drop (suc i) buf) b in
      rw (e, add-one, take-suc w i 0 h, k, n, drop-cons buf i 0 (omega arith), append_assoc) (rw n at seam)

pub storing-done : (w buf : List ℕ) (i : ℕ) {held : List ℕ} → length w ≤ i → held ≡ overlay (take i w) buf → held ≡ overlay w buf
storing-done w buf i {held} h e = e ∙ ap (λ (x : List ℕ). overlay x buf) (take_all i w h)

pub ruleset storing_laws = (storing-none, storing_more, storing-done)
