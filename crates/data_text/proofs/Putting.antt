-- What a step of the code says of the data bytes that are put.
use mathlib.Core.Path.{◌≡◌, sym, ap, ◌∙◌}
use Prim.Native.Nat.{ℕ, zero, suc, ◌+◌}
use native.Mathlib.Omega.{arith}
use native.Mathlib.Numerals.{add-one}
use mathlib.Core.List.{List, ◌++◌, append_assoc, append-nil}
use Rattle.print.specs.declared.Buffer.{Buffer}
use Rattle.print.specs.Puts.{Puts}
use Rattle.print.proofs.Steps.{puts-none, puts-then}
use Rattle.data_text.specs.Packed.{packed_at, packed_from}
use Rattle.data_text.specs.DataText.{lead_text, byte_text, data_text}

-- data byte k of a picture, and what stands before it
abbrev item_text : ℕ → List ℕ → ℕ → List ℕ
item_text w cells k = lead_text k ++ byte_text (packed_at w cells k)

-- the text of a byte more
text-more : (w : ℕ) (cells : List ℕ) (k n : ℕ) → data_text k (packed_from w cells k (suc n)) ≡ data_text k (packed_from w cells k n) ++ item_text w cells (k + n)
text-more w cells k zero = let z : k + 0 ≡ k = omega arith in rw (z, append-nil)
text-more w cells k (suc n) =
    let e : k + suc n ≡ suc k + n = omega arith in
    rw (e, text-more w cells (suc k) n)
    (ap (λ (x : List ℕ). lead_text k ++ x) (sym (append_assoc (byte_text (packed_at w cells k)) (data_text (suc k) (packed_from w cells (suc k) n)) (item_text w cells (suc k + n))))
    ∙ sym (append_assoc (lead_text k) (byte_text (packed_at w cells k) ++ data_text (suc k) (packed_from w cells (suc k) n)) (item_text w cells (suc k + n))))

-- what stands before a byte, and the byte
module _ (w : ℕ) (cells : List ℕ) {o o₁ o₂ o₃ : Buffer} where
  pub data-more : (k : ℕ) {b : ℕ} → b ≡ packed_at w cells k → Puts (data_text 0 (packed_from w cells 0 k)) o o₁ → Puts (lead_text k) o₁ o₂ → Puts (byte_text b) o₂ o₃
      → Puts (data_text 0 (packed_from w cells 0 (k + 1))) o o₃
  data-more k {b} e p l q =
      let z : 0 + k ≡ k = omega arith in
      rw (add-one k, text-more w cells 0 k, z, ← e) (puts-then (data_text 0 (packed_from w cells 0 k)) (lead_text k ++ byte_text b) p (puts-then (lead_text k) (byte_text b) l q))

pub ruleset data_laws = (puts-none, data-more)
