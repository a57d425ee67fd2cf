-- What the claim on the earliest place says of a place fixes its byte: no two places can both be so.
use Rattle.std.specs.Prelude.{◌≡◌, ℕ, suc, ◌≤◌, ◌<◌, List, ◌++◌, take, drop}
use Rattle.std.proofs.Common.{sym, ap, ◌∙◌, arith, append_assoc, take-append-drop, take-take}
use Rattle.std.proofs.Math.Decide.{dec_lt}
use Rattle.text.specs.declared.TextLocation.{TextLocation}
use Rattle.text.specs.Place.{byte_of}
use Rattle.grammar.specs.Lang.{Lang}
use Rattle.places.specs.Savable.{Can, Lost, Savable, taken, ended, SavableLine, short, long}

module _ (L : Lang) (t : List ℕ) where
  -- bytes that are lost stay so
  stays : (n k : ℕ) → n ≤ k → Lost L (take n t) → Can L (take k t) → ⊥
  stays n k h g (v, l) = g (drop n (take k t) ++ v) (rw (split ∙ append_assoc (take n t) (drop n (take k t)) v) at l)
    where
      split : take k t ++ v ≡ (take n t ++ drop n (take k t)) ++ v
      split = ap (λ (x : List ℕ). x ++ v) (sym (take-append-drop n (take k t)) ∙ ap (λ (x : List ℕ). x ++ drop n (take k t)) (take-take n k t h))

  stays-whole : (n : ℕ) → Lost L (take n t) → Can L t → ⊥
  stays-whole n g (v, l) = g (drop n t ++ v) (rw (ap (λ (x : List ℕ). x ++ v) (sym (take-append-drop n t)) ∙ append_assoc (take n t) (drop n t) v) at l)

  -- as many bytes can be kept in the one as in the other
  same_count : (n k : ℕ) → Can L (take n t) → Lost L (take (suc n) t) → Can L (take k t) → Lost L (take (suc k) t) → n ≡ k
  same_count n k a b c d = go (dec_lt n k) (dec_lt k n)
    where
      go : Dec (n < k) → Dec (k < n) → n ≡ k
      go (yes h) x = absurd (stays (suc n) k (omega arith) b c)
      go (no h) (yes x) = absurd (stays (suc k) n (omega arith) d a)
      go (no h) (no x) = omega arith

  pub once : (p q : TextLocation) → Savable t p L → Savable t q L → byte_of p ≡ byte_of q
  once p q (taken n x a b) (taken k y c d) = let z : n ≡ k = same_count n k a (rw (← x) at b) c (rw (← y) at d) in omega arith
  once p q (taken n x a b) (ended y c) = absurd (stays-whole (byte_of p) b c)
  once p q (ended x a) (taken k y c d) = absurd (stays-whole (byte_of q) d a)
  once p q (ended x a) (ended y c) = x ∙ sym y

  pub once-line : {K : Lang} (p q : TextLocation) → SavableLine t p K L → SavableLine t q K L → byte_of p ≡ byte_of q
  once-line p q (short g s) (short h r) = once p q s r
  once-line p q (short g s) (long x c d) = absurd (g (byte_of q) x)
  once-line p q (long x a b) (short h r) = absurd (h (byte_of p) x)
  once-line p q (long x a b) (long y c d) = same_count (byte_of p) (byte_of q) a b c d
