-- The theorems about what specs/Reader.antt defines.
use Rattle.std.specs.Prelude.{◌≡◌, ℕ, zero, suc, ◌<◌, ◌≤◌, List, [], ◌∷◌, length, take, refl}
use Rattle.std.proofs.Common.{sym, ap, ◌∙◌, arith, le_of_suc-le-suc, not-suc-le-zero, length-take-le}
use Rattle.std.proofs.Math.Decide.{dec_lt}
use Rattle.text.specs.declared.TextLocation.{TextLocation}
use Rattle.text.specs.Place.{byte_of}
use Rattle.text.specs.Rest.{Reach}
use Rattle.text.proofs.Rest.{walk-ahead, reach-inside, reach-trans, reach-same}
use Rattle.text.specs.Reader.{Result, bad, ok, stop, end_of, Reader, then, ◌>>=◌, Same, end_byte, Local, Settled, Firm, Placed, Mild, Grows}

pub ahead : {A : Type 0} {p : Reader A} → Local p → (t : List ℕ) (i : TextLocation) → byte_of i ≤ end_byte (p t i)
ahead l t i = walk-ahead (l.reach t i)

module _ {A B : Type 0} {p : Reader A} {f : A → Reader B} (lp : Local p) (lf : (a : A) → Local (f a)) where
  pub bind-local : Local (p >>= f)
  unfolding ◌>>=◌
  bind-local = record { reach = λ t i. far t i (p t i) (lp.reach t i); near = λ t u i. go t u (p t i) (p u i) (lp.near t u i) }
    where
      far : (t : List ℕ) (i : TextLocation) (r : Result A) → Reach t i (end_of r) → Reach t i (end_of (then r (λ a e. f a t e)))
      far t i (ok a e) h = reach-trans t h ((lf a).reach t e)
      far t i (stop c e) h = h
      far t i (bad c e) h = h

      go : (t u : List ℕ) (r s : Result A) → (Same t u (suc (end_byte r)) → s ≡ r) → Same t u (suc (end_byte (then r (λ a e. f a t e))))
          → then s (λ a e. f a u e) ≡ then r (λ a e. f a t e)
      go t u (ok a e) s h k = rw (h (λ j l. k j (omega (arith, ahead (lf a) t e)))) ((lf a).near t u e k)
      go t u (stop c e) s h k = rw (h k)
      go t u (bad c e) s h k = rw (h k)

  -- firm after firm
  pub bind-firm : Firm p → ((a : A) → Firm (f a)) → Firm (p >>= f)
  unfolding ◌>>=◌
  bind-firm hp hf = record { firm = λ t u i. go t u (p t i) (p u i) (hp.firm t u i) }
    where
      go : (t u : List ℕ) (r s : Result A) → (Settled r → Same t u (end_byte r) → s ≡ r) → Settled (then r (λ a e. f a t e))
          → Same t u (end_byte (then r (λ a e. f a t e))) → then s (λ a e. f a u e) ≡ then r (λ a e. f a t e)
      go t u (ok a e) s h w k = rw (h tt (λ j l. k j (omega (arith, ahead (lf a) t e)))) ((hf a).firm t u e w k)
      go t u (stop c e) s h w k = absurd w
      go t u (bad c e) s h w k = rw (h tt k)

  pub bind-mild : Mild p → ((a : A) → Mild (f a)) → Mild (p >>= f)
  unfolding ◌>>=◌
  bind-mild mp mf = record { mild = λ t i. go t (p t i) (mp.mild t i) }
    where
      go : (t : List ℕ) → (r : Result A) → Placed r → Placed (then r (λ a e. f a t e))
      go t (ok a e) h = (mf a).mild t e
      go t (stop c e) h = tt
      go t (bad c e) h = h

  -- one that always tells a place, then a firm one that takes a byte
  pub grow-firm : Mild p → ((a : A) → Firm (f a)) → ((a : A) → Grows (f a)) → Firm (p >>= f)
  unfolding ◌>>=◌
  grow-firm mp hf gf = record { firm = λ t u i. go t u (p t i) (p u i) (mp.mild t i) (lp.near t u i) }
    where
      go : (t u : List ℕ) (r s : Result A) → Placed r → (Same t u (suc (end_byte r)) → s ≡ r) → Settled (then r (λ a e. f a t e))
          → Same t u (end_byte (then r (λ a e. f a t e))) → then s (λ a e. f a u e) ≡ then r (λ a e. f a t e)
      go t u (ok a e) s q h w k = rw (h (λ j l. k j (omega (arith, (gf a).grows t e w)))) ((hf a).firm t u e w k)
      go t u (stop c e) s q h w k = absurd w
      go t u (bad c e) s q h w k = absurd q

  pub grow-grows : Mild p → ((a : A) → Grows (f a)) → Grows (p >>= f)
  unfolding ◌>>=◌
  grow-grows mp gf = record { grows = λ t i. go t i (p t i) (mp.mild t i) (ahead lp t i) }
    where
      go : (t : List ℕ) (i : TextLocation) (r : Result A) → Placed r → byte_of i ≤ end_byte r → Settled (then r (λ a e. f a t e))
          → byte_of i < end_byte (then r (λ a e. f a t e))
      go t i (ok a e) q h w = omega (arith, (gf a).grows t e w)
      go t i (stop c e) q h w = absurd w
      go t i (bad c e) q h w = absurd q

  pub bind-grows-left : Grows p → Grows (p >>= f)
  unfolding ◌>>=◌
  bind-grows-left g = record { grows = λ t i. go t i (p t i) (g.grows t i) }
    where
      go : (t : List ℕ) (i : TextLocation) (r : Result A) → (Settled r → byte_of i < end_byte r) → Settled (then r (λ a e. f a t e))
          → byte_of i < end_byte (then r (λ a e. f a t e))
      go t i (ok a e) h w = omega (arith, ahead (lf a) t e, h tt)
      go t i (stop c e) h w = absurd w
      go t i (bad c e) h w = h tt

-- ---- cuts

pub same-take : (n : ℕ) (t : List ℕ) → Same t (take n t) n
same-take zero t j h = absurd (not-suc-le-zero h)
same-take (suc n) [] j h = refl
same-take (suc n) (x ∷ t) zero h = refl
same-take (suc n) (x ∷ t) (suc j) h = same-take n t j (le_of_suc-le-suc h)

module _ {A : Type 0} {p : Reader A} (lp : Local p) (t : List ℕ) (i : TextLocation) (n : ℕ) (hi : byte_of i ≤ n) (hn : n ≤ length t) where
  -- a cut past the result's end: nothing changes
  pub cut-past : end_byte (p t i) < n → p (take n t) i ≡ p t i
  cut-past h = lp.near t (take n t) i (λ j l. same-take n t j (omega arith))

  top : end_byte (p (take n t) i) ≤ n
  top =
      omega (arith, length-take-le n t hn, reach-inside (take n t) i (lp.reach (take n t) i) (omega (arith, length-take-le n t hn)))

  -- a cut before the result's end: the cut's result ends at the cut
  pub cut-end : n ≤ end_byte (p t i) → end_byte (p (take n t) i) ≡ n
  cut-end h = go (dec_lt (end_byte (p (take n t) i)) n)
    where
      go : Dec (end_byte (p (take n t) i) < n) → end_byte (p (take n t) i) ≡ n
      go (yes l) = omega (arith, ap end_byte (lp.near (take n t) t i (λ j k. sym (same-take n t j (omega arith)))))
      go (no l) = omega (arith, top)

  pub cut-firm : Firm p → Settled (p t i) → end_byte (p t i) ≤ n → p (take n t) i ≡ p t i
  cut-firm f w h = f.firm t (take n t) i w (λ j l. same-take n t j (omega arith))

  -- what a cut settles, the whole settles so too
  pub uncut : Firm p → Settled (p (take n t) i) → p t i ≡ p (take n t) i
  uncut f w = f.firm (take n t) t i w (λ j k. sym (same-take n t j (omega (arith, top))))

  -- refused at the cut: at the place that has n bytes before it
  pub cut-stop : Firm p → n < end_byte (p t i) → (c : ℕ) × (q : TextLocation) × (p (take n t) i ≡ stop c q) × (byte_of q ≡ n) × Reach t i q
  cut-stop f h = go (p (take n t) i) refl (cut-end (omega arith)) (lp.reach (take n t) i)
    where
      go : (r : Result A) → p (take n t) i ≡ r → end_byte (p (take n t) i) ≡ n → Reach (take n t) i (end_of (p (take n t) i))
          → (c : ℕ) × (q : TextLocation) × (p (take n t) i ≡ stop c q) × (byte_of q ≡ n) × Reach t i q
      go (ok a e) q l w = absurd (omega (arith, ap end_byte (uncut f (rw q tt))))
      go (stop c e) q l w = (c, e, q, sym (ap end_byte q) ∙ l, reach-same (take n t) t (rw q at w) (λ j k. sym (same-take n t j (omega (arith, ap end_byte q)))))
      go (bad c e) q l w = absurd (omega (arith, ap end_byte (uncut f (rw q tt))))
