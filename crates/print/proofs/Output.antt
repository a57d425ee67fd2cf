-- The theorems about what specs/Output.antt defines.
use Rattle.std.specs.Prelude.{ℕ, zero, suc, ◌+◌, ◌-◌, ◌≤◌, ◌<◌, ◌≡◌, min, refl, List, [], ◌∷◌, ◌++◌}
use Rattle.std.proofs.Common.{arith, add-one, sym, ap, ◌∙◌, append_assoc, append-nil, take-suc-set, drop-set-lt, lt-ltb, le-ltb, drop-drop}
use Rattle.std.proofs.Math.Decide.{dec_le}
use Rattle.std.proofs.Math.Seq.{take-length, drop-length, drop-nil}
use lib.ListN.{length, take, drop, set, length-set, length-append}
use Rattle.print.specs.Output.{Output, output, put, puts, joined}

-- ---- laws

pub length-joined-two : (u v : List ℕ) → length (joined (u ∷ v ∷ [])) ≡ length u + length v
unfolding joined
length-joined-two u v = omega (arith, length-append u (v ++ []), length-append v [])

pub length-joined-three : (u v w : List ℕ) → length (joined (u ∷ v ∷ w ∷ [])) ≡ length u + length v + length w
unfolding joined
length-joined-three u v w = omega (arith, length-append u (v ++ (w ++ [])), length-append v (w ++ []), length-append w [])

pub length-joined-four : (u v w x : List ℕ) → length (joined (u ∷ v ∷ w ∷ x ∷ [])) ≡ length u + length v + length w + length x
unfolding joined
length-joined-four u v w x = omega (arith, length-append u (v ++ (w ++ (x ++ []))), length-append v (w ++ (x ++ [])), length-append w (x ++ []), length-append x [])

pub puts-append : (u v : List ℕ) (o : Output) → puts (u ++ v) o ≡ puts v (puts u o)
unfolding puts
puts-append [] v o = refl
puts-append (b ∷ u) v o = puts-append u v (put b o)

put-room : (b : ℕ) (s : List ℕ) (k : ℕ) → k < length s → put b (output s k) ≡ output (set s k b) (k + 1)
unfolding put
put-room b s k h = rw (lt-ltb k (length s) h)

-- without room nothing is put
puts-past : (w s : List ℕ) (k : ℕ) → length s ≤ k → puts w (output s k) ≡ output s k
unfolding put puts
puts-past [] s k h = refl
puts-past (b ∷ w) s k h = rw (le-ltb k (length s) h) (puts-past w s k h)

-- as much of a word as has room stands where it was put, and what is around it is as lent
puts-room : (w s : List ℕ) (k n : ℕ) → k ≤ length s → n ≡ min (length w) (length s - k) → puts w (output s k) ≡ output (take k s ++ (take n w ++ drop (k + n) s)) (k + n)
unfolding puts
puts-room w s k zero h e = let z : k + 0 ≡ k = omega arith in rw (z, lib.ListN.take-append-drop k s) (none w e)
  where
    none : (w : List ℕ) → 0 ≡ min (length w) (length s - k) → puts w (output s k) ≡ output s k
    none [] e = refl
    none (b ∷ w) e = puts-past (b ∷ w) s k (omega (arith, e))
puts-room [] s k (suc n) h e = absurd (omega (arith, e))
puts-room (b ∷ w) s k (suc n) h e =
    let l : k < length s = omega (arith, e) in
    let i : k + 1 + n ≡ k + suc n = omega arith in
    rw (put-room b s k l)
    (puts-room w (set s k b) (k + 1) n (omega (arith, length-set s k b)) (omega (arith, e, length-set s k b))
    ∙ rw (i, add-one, take-suc-set s k b l, drop-set-lt (k + suc n) s k b (omega arith)) (ap (λ (x : List ℕ). output x (k + suc n)) (append_assoc (take k s) (b ∷ []) (take n w ++ drop (k + suc n) s))))

-- a word that has room stands where it was put, and what follows it is as lent
puts-on : (w s : List ℕ) (n : ℕ) → n + length w ≤ length s → puts w (output s n) ≡ output (take n s ++ (w ++ drop (n + length w) s)) (n + length w)
puts-on w s n h = puts-room w s n (length w) (omega arith) (omega arith) ∙ rw take-length

-- from the start of a buffer
pub puts-start : (w s : List ℕ) → length w ≤ length s → puts w (output s 0) ≡ output (w ++ drop (length w) s) (length w)
puts-start w s h = let z : 0 + length w ≡ length w = omega arith in puts-on w s 0 (omega arith) ∙ rw z

-- what the code copies, from a place that may be past the end
pub puts_copied : (w s : List ℕ) (k : ℕ) {from n : ℕ} {q : List ℕ} → from ≡ min k (length s) → n ≡ min (length w) (length s - from) → q ≡ take n w
    → output (take from s ++ (q ++ drop (from + n - from) (drop from s))) (k + n) ≡ puts w (output s k)
puts_copied w s k {from} {n} {q} e f g = go (dec_le k (length s))
  where
    go : Dec (k ≤ length s) → output (take from s ++ (q ++ drop (from + n - from) (drop from s))) (k + n) ≡ puts w (output s k)
    go (yes l) =
        let i : from ≡ k = omega (arith, e) in
        let m : k + n - k ≡ n = omega arith in
        rw (g, i, m, drop-drop) (sym (puts-room w s k n l (omega (arith, f, i))))
    go (no l) =
        let i : from ≡ length s = omega (arith, e) in
        let z : n ≡ 0 = omega (arith, f, i) in
        let y : k + 0 ≡ k = omega arith in
        rw (g, z, i, y, take-length, drop-length, drop-nil, append-nil) (sym (puts-past w s k (omega arith)))
