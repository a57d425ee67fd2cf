-- Of each mask there is one text at most in document 02's layout: each piece of it has one word.
use Rattle.std.specs.Prelude.{◌≡◌, refl, ℕ, zero, suc, ◌+◌, ◌-◌, ◌*◌, ◌/◌, ◌%◌, ◌≤◌, ◌<◌, List, [], ◌∷◌, length, take, drop, ℤ, pos, neg_ℤ}
use Rattle.std.proofs.Common.{sym, ap, ◌∙◌, inl, inr, arith, length-append, take_at, drop_at}
use Prim.Native.String.{String}
use Rattle.std.proofs.Math.Decide.{dec_lt}
use Rattle.std.proofs.Math.Option.{Option, none, some}
use Rattle.text.specs.Ascii.{ascii}
use Rattle.grammar.specs.Lang.{Lang, Word, Lit, ◌·◌}
use Rattle.grammar.specs.Grammar.{Mask, Digits, value, Decimal, Coordinate}
use Rattle.claims.specs.Terms.{Signed}
use Rattle.round_trip.specs.Terms.{Lower, Plain, Row, Rows, last, more, Single, Spot, Layout}

-- a language of one word at most
abbrev One : Lang → Type 0
One L = (t u : List ℕ) → L t → L u → t ≡ u

word-one : (s : List ℕ) → One (Word s)
unfolding Word
word-one s t u e f = e ∙ sym f

both_one : (K L : Lang) → One K → One L → One (K · L)
unfolding ◌·◌
both_one K L f g t u (a, b, e, k, l) (c, d, q, m, n) = cc (e, q, f a c k m, g b d l n)

-- ---- numbers

-- as many digits of the same value are the same, and so is what they follow
digits-one : (x y : ℕ) (u v : List ℕ) → Digits u → Digits v → length u ≡ length v → value x u ≡ value y v → (x ≡ y) × (u ≡ v)
digits-one x y [] [] d e n q = (q, refl)
digits-one x y [] (b ∷ v) d e n q = absurd (omega arith)
digits-one x y (a ∷ u) [] d e n q = absurd (omega arith)
digits-one x y (a ∷ u) (b ∷ v) ((h, k), d) ((i, j), e) n q =
    let (r, s) = digits-one (x * 10 + (a - 48)) (y * 10 + (b - 48)) u v d e (omega arith) q in
    let z : a ≡ b = omega arith in
    (omega arith, cc)

-- more digits, the first of them not 0, have another value
longer : (x : ℕ) (u v : List ℕ) → Digits u → Digits v → 0 < x → length u ≤ length v → value 0 u ≡ value x v → ⊥
longer x [] [] d e p n q = omega arith
longer x (a ∷ u) [] d e p n q = omega arith
longer x u (b ∷ v) d (j, e) p n q = go (dec_lt (length v) (length u)) (λ l. longer (x * 10 + (b - 48)) u v d e (omega arith) l q)
  where
    go : Dec (length v < length u) → (length u ≤ length v → ⊥) → ⊥
    go (yes l) f = let (r, s) = digits-one 0 x u (b ∷ v) d (j, e) (omega arith) q in omega arith
    go (no l) f = f (omega arith)

record Number (n : ℕ) (w : List ℕ) : Type 0 where
  pub digits : Digits w
  pub valued : value 0 w ≡ n
  pub led : (x : ℕ) (v : List ℕ) → w ≡ x ∷ v → 0 < length v → 0 < x - 48
  pub some-digit : 0 < length w

number : (n : ℕ) (w : List ℕ) → Decimal n w → Number n w
unfolding Decimal
number n [] d = absurd d
number n (x ∷ []) (d, v) = record { digits = d; valued = v; led = λ y z e l. absurd (omega (arith, ap length e)); some-digit = omega arith }
number n (x ∷ y ∷ w) (z, d, v) = record { digits = d; valued = v; led = λ a b e l. (let q : x ≡ a = cc in rw (← q) (positive x z d.0.0)); some-digit = omega arith }
  where
    positive : (a : ℕ) → (a ≡ 48 → ⊥) → 48 ≤ a → 0 < a - 48
    positive a f h = go (dec_lt 48 a)
      where
        go : Dec (48 < a) → 0 < a - 48
        go (yes l) = omega arith
        go (no l) = absurd (f (omega arith))

shorter : (n : ℕ) (u v : List ℕ) → Number n u → Number n v → length u < length v → ⊥
shorter n u [] a b l = omega arith
shorter n u (y ∷ v) a b l =
    let z : 0 * 10 + (y - 48) ≡ y - 48 = omega arith in
    longer (y - 48) u v a.digits b.digits.1 (b.led y v refl (omega (arith, a.some-digit))) (omega arith) (a.valued ∙ sym b.valued ∙ ap (λ (x : ℕ). value x v) z)

decimal-one : (n : ℕ) → One (Decimal n)
decimal-one n t u k l = go (number n t k) (number n u l) (dec_lt (length t) (length u)) (dec_lt (length u) (length t))
  where
    go : Number n t → Number n u → Dec (length t < length u) → Dec (length u < length t) → t ≡ u
    go a b (yes h) i = absurd (shorter n t u a b h)
    go a b (no h) (yes i) = absurd (shorter n u t b a i)
    go a b (no h) (no i) = (digits-one 0 0 t u a.digits b.digits (omega arith) (a.valued ∙ sym b.valued)).1

-- a sign before 0 makes `-0`
minus-zero : (w : List ℕ) → (Lit "-" · Decimal 0) w → w ≡ ascii "-0"
unfolding Decimal ◌·◌ Word
minus-zero w (a, b, e, k, l) = cc (e, k, decimal-one 0 b (ascii "0") l (((omega arith, omega arith), tt), refl))

-- so with that out, no number is written with a sign and without
apart : (z : ℤ) (m n : ℕ) (u : List ℕ) → z ≡ pos m → z ≡ neg_ℤ (pos n) → (Lit "-" · Decimal n) u → (u ≡ ascii "-0" → ⊥) → ⊥
apart z m zero u p q k f = f (minus-zero u k)
apart z m (suc n) u p q k f = let x : ◌≡◌ {A = ℕ} 0 1 = cc in omega arith

negative-one : (m n : ℕ) → neg_ℤ (pos m) ≡ neg_ℤ (pos n) → m ≡ n
negative-one zero zero e = refl
negative-one zero (suc n) e = let x : ◌≡◌ {A = ℕ} 0 1 = cc in absurd (omega arith)
negative-one (suc m) zero e = let x : ◌≡◌ {A = ℕ} 0 1 = cc in absurd (omega arith)
negative-one (suc m) (suc n) e = cc

signed-one : (z : ℤ) → One (Signed z)
unfolding Coordinate
signed-one z t u ((m, inl (d, p, h)), f) ((n, inl (e, q, i)), g) = let x : m ≡ n = cc in decimal-one n t u (rw x at d) e
signed-one z t u ((m, inl (d, p, h)), f) ((n, inr (e, q, i)), g) = absurd (apart z m n u p q e g)
signed-one z t u ((m, inr (d, p, h)), f) ((n, inl (e, q, i)), g) = absurd (apart z n m t q p d f)
signed-one z t u ((m, inr (d, p, h)), f) ((n, inr (e, q, i)), g) =
    let x : m ≡ n = negative-one m n (sym p ∙ q) in both_one (Lit "-") (Decimal n) (word-one _) (decimal-one n) t u (rw x at d) e

-- ---- data bytes

lower-one : (d : ℕ) → One (Lower d)
unfolding Lower
lower-one d t u (inl (h, e)) (inl (k, f)) = e ∙ sym f
lower-one d t u (inl (h, e)) (inr (k, i, f)) = absurd (omega arith)
lower-one d t u (inr (h, i, e)) (inl (k, f)) = absurd (omega arith)
lower-one d t u (inr (h, i, e)) (inr (k, j, f)) = e ∙ sym f

plain-one : (b : ℕ) → One (Plain b)
unfolding Plain
plain-one b = both_one _ _ (word-one _) (both_one _ _ (lower-one (b / 16)) (lower-one (b % 16)))

row_one : (l : List ℕ) → One (Row l)
unfolding Row
row_one [] = word-one []
row_one (b ∷ []) = plain-one b
row_one (b ∷ c ∷ l) = both_one _ _ (plain-one b) (both_one _ _ (word-one _) (row_one (c ∷ l)))

rows-some : (l w : List ℕ) → Rows l w → 0 < length l
rows-some _ _ (last l w h n k) = h
rows-some _ _ (more k l v w n r s) = omega (arith, length-append k l)

-- a line of twelve is the same in both, for the bytes are
rows_same : (l m t u : List ℕ) → Rows l t → Rows m u → l ≡ m → t ≡ u
rows_same _ _ _ _ (last l t h n k) (last m u i o r) e = both_one _ _ (word-one _) (row_one m) t u (rw e at k) r
rows_same _ _ _ _ (last l t h n k) (more a m v w o r s) e = absurd (omega (arith, ap length e, length-append a m, rows-some m w s))
rows_same _ _ _ _ (more a l v w o r s) (last m u h n k) e = absurd (omega (arith, ap length e, length-append a l, rows-some l w s))
rows_same _ _ _ _ (more a l v w o r s) (more a' l' v' w' o' r' s') e =
    let p : a ≡ a' = sym (take_at a l 12 o) ∙ ap (take 12) e ∙ take_at a' l' 12 o' in
    let q : l ≡ l' = sym (drop_at a l 12 o) ∙ ap (drop 12) e ∙ drop_at a' l' 12 o' in
    cc (both_one _ _ (word-one _) (both_one _ _ (row_one a') (word-one _)) v v' (rw p at r) r', rows_same l l' w w' s s' q)

rows-one : (l : List ℕ) → One (Rows l)
rows-one l t u k r = rows_same l l t u k r refl

-- ---- the header, and the whole

single-one : (name : List ℕ) (ending : String) (N : Lang) → One N → One (Single name ending N)
unfolding Single
single-one name ending N f = both_one _ _ (word-one _) (both_one _ _ (word-one _) (both_one _ _ (word-one _) (both_one _ _ (word-one _) (both_one _ _ f (word-one _)))))

spot-one : (name : List ℕ) (hot : Option (ℤ × ℤ)) → One (Spot name hot)
unfolding Spot
spot-one name none = word-one []
spot-one name (some (x, y)) = both_one _ _ (single-one name "_x_hot" (Signed x) (signed-one x)) (single-one name "_y_hot" (Signed y) (signed-one y))

pub one-text : (m : Mask) (t u : List ℕ) → Layout m t → Layout m u → t ≡ u
unfolding Layout
one-text m =
    both_one _ _ (single-one m.name "_width" _ (decimal-one m.width))
    (both_one _ _ (single-one m.name "_height" _ (decimal-one m.height))
    (both_one _ _ (spot-one m.name m.hot)
    (both_one _ _ (both_one _ _ (word-one _) (both_one _ _ (word-one _) (word-one _)))
    (both_one _ _ (rows-one m.bytes) (word-one _)))))
