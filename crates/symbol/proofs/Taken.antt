-- The bytes that reading a token takes, also one that is too long.
use Rattle.std.specs.Prelude.{Result as Answer, Ok, Err}
use Rattle.std.specs.List.{between}
use Prim.Native.Nat.{ℕ, suc, ◌+◌, ◌-◌, ◌≤◌}
use native.Mathlib.Omega.{arith}
use borrow.Author.Tests.{ltb-true}
use mathlib.Core.Path.{◌≡◌, refl}
use mathlib.Core.Option.{some}
use mathlib.Core.List.{List, [], ◌∷◌, ◌++◌, append_assoc}
use mathlib.Core.Bool.{Bool}
use lib.ListN.{length, take}
use Rattle.std.proofs.lemmas.List.{append-nil}
use Rattle.std.proofs.Common.{length-append, length-take}
use Rattle.text.specs.declared.TextLocation.{TextLocation}
use Rattle.text.specs.declared.TextReader.{TextReader}
use Rattle.text.specs.Place.{rest, after, byte_of}
use Rattle.text.specs.Rest.{Walk, here, Reach}
use Rattle.text.specs.TextReader.{since}
use Rattle.text.specs.Reader.{Result, ok, end_of}
use Rattle.text.specs.Leaf.{scan, run}
use Rattle.text.proofs.PlaceLaws.{rest-sound, sound-rest}
use Rattle.lexical.specs.declared.XbmPart.{XbmPart}
use Rattle.lexical.specs.Token.{up_to, token, span}
use Rattle.lexical.specs.Reads.{told, broken, Reads}
use Rattle.lexical.proofs.TokenLaws.{token-local}

take-next : (n m b : ℕ) (l : List ℕ) → n ≡ suc m → take n (b ∷ l) ≡ b ∷ take m l
take-next n m b l e = rw e

module _ (ends : ℕ → Bool) (c lim : ℕ) where
  abbrev taking : List ℕ → List ℕ → TextLocation → Result (List ℕ)
  taking w l i = scan c (up_to ends lim) (λ w. some w) w l i

  -- no more than lim bytes are taken
  short : (w l : List ℕ) (i : TextLocation) → length w ≤ lim → byte_of (end_of (taking w l i)) + length w ≤ byte_of i + lim
  unfolding after
  short w [] i h = omega arith
  short w (b ∷ l) i h = grind (arith, length-append w (b ∷ []), ltb-true (length w) lim, short (w ++ (b ∷ [])) l (after b i))

  -- the token is the bytes that were taken, behind those taken before
  behind : (w l : List ℕ) (i : TextLocation) {v : List ℕ} {e : TextLocation} → ok v e ≡ taking w l i → (byte_of i ≤ byte_of e) × (v ≡ w ++ take (byte_of e - byte_of i) l)
  unfolding after
  behind w [] i h = grind (arith, append-nil w)
  behind w (b ∷ l) i {v} {e} h =
      let n = byte_of e - byte_of (after b i) in
      grind (arith, behind (w ++ (b ∷ [])) l (after b i) {v = v} {e = e}, take-next (byte_of e - byte_of i) n b l, append_assoc w (b ∷ []) (take n l), append-nil w)

-- the bytes from a place to one that is reached from it
walk-none : {p q : TextLocation} → Walk [] p q → q ≡ p
walk-none here = refl

reached-span : (t : List ℕ) (p q : TextLocation) → Reach t p q → between (byte_of p) (byte_of q) t ≡ span t p q
unfolding span
reached-span t p q w = go (rest t p) refl w
  where
    go : (l : List ℕ) → rest t p ≡ l → Walk l p q → between (byte_of p) (byte_of q) t ≡ take (byte_of q - byte_of p) (rest t p)
    go [] e w = grind (arith, walk-none w)
    go (b ∷ l) e w = rw (sound-rest t p (rest-sound t p e))

-- an answer's place is where the reader stands
told-place : {A : Type 0} (m : Answer A XbmPart) (e : TextLocation) → end_of (told broken m e) ≡ e
told-place (Ok a) e = refl
told-place (Err x) e = refl

-- reading a token: the bytes from where it starts to where the reader stands
module _ (ends : ℕ → Bool) (c lim : ℕ) {r₀ r₁ : TextReader} {m : Answer (List ℕ) XbmPart} (h : Reads (token ends c lim) r₀ r₁ m) where
  abbrev end : TextLocation
  end = end_of (token ends c lim r₀.text.now r₀.location)

  pub token_span : since r₀.location r₁ ≡ span r₀.text.now r₀.location end
  token_span =
      let e : r₁.location ≡ end = rw (← h.answer, told-place m r₁.location) in
      rw (e, h.kept) (reached-span r₀.text.now r₀.location end ((token-local ends c lim).reach r₀.text.now r₀.location))

  pub token_fits : length (since r₀.location r₁) ≤ lim
  unfolding token span run
  token_fits =
      rw token_span (omega (arith, short ends c lim [] (rest r₀.text.now r₀.location) r₀.location (omega arith), length-take (byte_of end - byte_of r₀.location) (rest r₀.text.now r₀.location)))

  pub token_bytes : {v : List ℕ} → m ≡ Ok v → v ≡ since r₀.location r₁
  unfolding token span run
  token_bytes {v} e =
      let k : ok v r₁.location ≡ token ends c lim r₀.text.now r₀.location = rw e at h.answer in
      rw (token_span, ← k) (behind ends c lim [] (rest r₀.text.now r₀.location) r₀.location k).1
