-- Laws of a token being taken.
use Prim.Native.Nat.{ℕ, ◌+◌, ◌-◌, ◌*◌, ◌^◌, ◌<◌, ◌≤◌}
use native.Mathlib.Omega.{arith}
use borrow.Author.Tests.{lt-ltb, le-ltb}
use mathlib.Core.Path.{◌≡◌, refl, sym, ap, ◌∙◌}
use mathlib.Core.Option.{some}
use mathlib.Core.List.{List, [], ◌∷◌, ◌++◌}
use mathlib.Core.Bool.{Bool, true, false}
use lib.ListN.{length, take, drop}
use Rattle.std.proofs.lemmas.List.Edits.{between_more}
use Rattle.std.specs.Prelude.{Some, None}
use Rattle.text.specs.declared.TextLocation.{TextLocation}
use Rattle.text.specs.declared.TextReader.{TextReader}
use Rattle.text.specs.Place.{after, byte_of, past_byte, peeked_at}
use Rattle.text.specs.TextReader.{since}
use Rattle.text.specs.Reader.{Reader, ok, stop}
use Rattle.text.specs.Leaf.{run}
use Rattle.text.proofs.Laws.{next-at, next_past}
use Rattle.text.proofs.Reading.{run_on, run-stay, run-halt, run_end}
use Rattle.lexical.specs.Token.{up_to, token}
use Rattle.lexical.proofs.Laws.{remains-less}

-- the bytes w were taken, and the token goes on
unfoldable pub token_from : (ℕ → Bool) → ℕ → ℕ → List ℕ → Reader (List ℕ)
token_from ends c lim = run c (up_to ends lim) (λ w. some w)

-- the bytes from `start`, where r₀ stands, up to where r stands are taken, and the token goes on from there
pub record Taking (ends : ℕ → Bool) (c lim : ℕ) (r₀ : TextReader) (start : TextLocation) (r : TextReader) : Type 0 where
  pub kept : r.text ≡ r₀.text
  pub came : byte_of start ≤ byte_of r.location
  pub left : token_from ends c lim (since start r) r.text.now r.location ≡ token ends c lim r₀.text.now r₀.location

module _ (ends : ℕ → Bool) (c lim : ℕ) where
  -- nothing is taken where a token begins
  pub token-begins : (p : ℕ) (t : List ℕ) (i : TextLocation) → token_from ends c lim (take (p - p) (drop p t)) t i ≡ token ends c lim t i
  unfolding token token_from
  token-begins p t i = let z : p - p ≡ 0 = omega arith in rw z

  module _ (t : List ℕ) (i : TextLocation) where
    pub token-stops : (w : List ℕ) {b : ℕ} → peeked_at t i ≡ Some b → ends b ≡ true → token_from ends c lim w t i ≡ ok w i
    unfolding token_from
    token-stops w h y = sym (run-stay c (up_to ends lim) (λ w. some w) w t i refl h (rw y) refl)

    pub token-ends : (w : List ℕ) → peeked_at t i ≡ None → token_from ends c lim w t i ≡ ok w i
    unfolding token_from
    token-ends w h = sym (run_end c (up_to ends lim) (λ w. some w) w t i refl h refl refl)

    pub token-full : (w : List ℕ) {b : ℕ} → peeked_at t i ≡ Some b → ends b ≡ false → lim ≤ length w → token_from ends c lim w t i ≡ stop c i
    unfolding token_from
    token-full w h n l = sym (run-halt c (up_to ends lim) (λ w. some w) w t i refl h (rw (n, le-ltb (length w) lim l)) refl)

    pub token-more : (w : List ℕ) {b : ℕ} → peeked_at t i ≡ Some b → ends b ≡ false → length w < lim → length t * 1 < 2 ^ 63 → token_from ends c lim w t i ≡ token_from ends c lim (w ++ b ∷ []) t (past_byte i b)
    unfolding token_from
    token-more w {b} h n l s =
        let z : past_byte i b ≡ after b i = next_past t i refl h s in
        sym (run_on c (up_to ends lim) (λ w. some w) w t i refl h (rw (n, lt-ltb (length w) lim l)) refl) ∙ ap (λ q. token_from ends c lim (w ++ b ∷ []) t q) (sym z)

-- the bytes since a place, with one byte more
module _ (t : List ℕ) (i : TextLocation) {b : ℕ} (h : peeked_at t i ≡ Some b) (s : length t * 1 < 2 ^ 63) where
  pub byte-more : byte_of (past_byte i b) ≡ byte_of i + 1
  unfolding after
  byte-more = ap byte_of (next_past t i refl h s)

  pub since-more : (p : ℕ) → p ≤ byte_of i → take (byte_of (past_byte i b) - p) (drop p t) ≡ take (byte_of i - p) (drop p t) ++ b ∷ []
  since-more p l =
      let a = next-at t i refl h in
      rw (byte-more, ← a.1) (between_more t p (byte_of i) 0 l a.0)

pub ruleset taking_laws = (token-begins, token-stops, token-ends, token-full, token-more, byte-more, since-more, remains-less)
