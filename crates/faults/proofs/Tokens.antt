-- The reader's answer for a token, in these words: each answer is given just where they hold.
use Rattle.std.specs.Prelude.{◌≡◌, ◌⊎◌, ℕ, ◌≤◌, ◌<◌, Bool, eqb, ℤ, pos, neg_ℤ, Result, Ok, Err}
use Rattle.std.proofs.Math.Path.{refl}
use Rattle.std.proofs.Common.{sym, ap, ◌∙◌, arith}
use Rattle.std.proofs.Math.Logic.{inl, inr}
use Rattle.std.proofs.Math.Decide.{dec_le}
use Rattle.std.proofs.Math.Option.{some}
use Rattle.std.proofs.Math.Bool.{true, false}
use Rattle.std.proofs.lemmas.Bool.{false≢true}
use mathlib.Core.List.{List, [], ◌∷◌, ◌++◌}
use Rattle.std.proofs.Math.Dec.{leb}
use borrow.Author.Tests.{eqb-true, eqb-false, ne_eqb, leb-true, leb-false, lt-leb}
use Rattle.text.specs.Place.{pick}
use Rattle.integer.specs.declared.Fault.{Fault}
use Rattle.integer.specs.declared.Fault.TheVariants.{Empty, LeadingZero, NotDigit, OutOfRange}
use Rattle.integer.specs.Decimal.{is_digit, all_digits, value_from, digits_from, parse_u32, parse_i32, value_in, positive, negative}
use Rattle.grammar.specs.Lang.{Word, ◌·◌}
use Rattle.grammar.specs.Grammar.{Digits, value, Decimal, Coordinate}
use Rattle.grammar.proofs.Tests.{value_same, digits-true, true-digits, valued, coordinate→integer}
use Rattle.faults.specs.Terms.{Plain, Marred, Above, Behind, Says, SaysSigned}

-- ---- tokens that are not empty and that no zero leads

never : {C : Type 0} {v : List ℕ} {a : ℕ} → ◌≡◌ {A = List ℕ} [] (a ∷ v) → C
never q = let z : ◌≡◌ {A = ℕ} 0 1 = cc in absurd (omega arith)

abbrev rest : List ℕ → List ℕ
rest [] = []
rest (x ∷ w) = w

single-plain : (d : ℕ) → Plain (d ∷ [])
single-plain d = ((λ q. never (sym q)), λ (b, v, q). never (ap rest q))

several-plain : (d e : ℕ) (t : List ℕ) → (d ≡ 48 → ⊥) → Plain (d ∷ e ∷ t)
several-plain d e t n = ((λ q. never (sym q)), λ (b, v, q). n (cc q))

-- a decimal number is plain digits of its value, and plain digits are one
decimal-plain : (n : ℕ) (w : List ℕ) → Decimal n w → Plain w × Digits w × (value 0 w ≡ n)
unfolding Decimal
decimal-plain n [] d = absurd d
decimal-plain n (x ∷ []) d = (single-plain x, d.0, d.1)
decimal-plain n (x ∷ y ∷ w) d = (several-plain x y w d.0, d.1, d.2)

plain-decimal : (w : List ℕ) → Plain w → Digits w → Decimal (value 0 w) w
unfolding Decimal
plain-decimal [] p d = absurd (p.0 refl)
plain-decimal (x ∷ []) p d = (d, refl)
plain-decimal (x ∷ y ∷ w) p d = ((λ q. p.1 (y, w, ap (λ (b : ℕ). b ∷ y ∷ w) q)), d, refl)

-- ---- a byte that is no digit

odd_byte : (w : List ℕ) → all_digits w ≡ false → (u : List ℕ) × (b : ℕ) × (v : List ℕ) × (w ≡ u ++ (b ∷ v)) × ((48 ≤ b) × (b ≤ 57) → ⊥)
unfolding is_digit
odd_byte [] h = absurd (false≢true (sym h))
odd_byte (x ∷ w) h = go (odd_byte w) (leb 48 x) (leb x 57) refl refl h
  where
    go : (all_digits w ≡ false → (u : List ℕ) × (b : ℕ) × (v : List ℕ) × (w ≡ u ++ (b ∷ v)) × ((48 ≤ b) × (b ≤ 57) → ⊥)) → (a b : Bool) → leb 48 x ≡ a → leb x 57 ≡ b → pick (pick a b false) (all_digits w) false ≡ false → (u : List ℕ) × (b : ℕ) × (v : List ℕ) × (x ∷ w ≡ u ++ (b ∷ v)) × ((48 ≤ b) × (b ≤ 57) → ⊥)
    go f true true p q h = let (u, b, v, e, n) = f h in (x ∷ u, b, v, ap (λ (r : List ℕ). x ∷ r) e, n)
    go f true false p q h = ([], x, w, refl, λ (k, l). omega (arith, leb-false x 57 q))
    go f false b p q h = ([], x, w, refl, λ (k, l). omega (arith, leb-false 48 x p))

no-digits : (u : List ℕ) (b : ℕ) (v : List ℕ) → ((48 ≤ b) × (b ≤ 57) → ⊥) → Digits (u ++ (b ∷ v)) → ⊥
no-digits [] b v n d = n d.0
no-digits (x ∷ u) b v n d = no-digits u b v n d.1

-- ---- a side's token

plain-parse : (w : List ℕ) → Plain w → parse_u32 w ≡ digits_from 0 w
plain-parse [] p = absurd (p.0 refl)
plain-parse (x ∷ []) p = refl
plain-parse (x ∷ y ∷ w) p = rw (ne_eqb x 48 (λ q. p.1 (y, w, ap (λ (b : ℕ). b ∷ y ∷ w) q)))

marred-parse : (w : List ℕ) → Marred w → parse_u32 w ≡ Err NotDigit
unfolding digits_from
marred-parse w (p, (u, b, v, e, n)) = plain-parse w p ∙ go (all_digits w) refl
  where
    go : (a : Bool) → all_digits w ≡ a → pick a (pick (leb (value_from 0 w) 4294967295) (Ok (value_from 0 w)) (Err OutOfRange)) (Err NotDigit) ≡ Err NotDigit
    go true h = absurd (no-digits u b v n (rw e at (digits-true w h)))
    go false h = refl

above-parse : (w : List ℕ) → Above 4294967295 w → parse_u32 w ≡ Err OutOfRange
unfolding digits_from
above-parse w (p, d, l) = plain-parse w p ∙ rw (true-digits w d, value_same 0 w, lt-leb (value 0 w) 4294967295 l)

pub says-answer : (r : Result ℕ Fault) (w : List ℕ) → Says r w → parse_u32 w ≡ r
says-answer (Ok n) w (d, l) = valued w n d l
says-answer (Err Empty) w e = ap parse_u32 e
says-answer (Err LeadingZero) w (b, v, e) = ap parse_u32 e
says-answer (Err NotDigit) w h = marred-parse w h
says-answer (Err OutOfRange) w h = above-parse w h

by_digits : (w : List ℕ) → Plain w → Says (digits_from 0 w) w
unfolding digits_from
by_digits w p = go (all_digits w) (leb (value_from 0 w) 4294967295) refl refl
  where
    go : (a b : Bool) → all_digits w ≡ a → leb (value_from 0 w) 4294967295 ≡ b → Says (pick a (pick b (Ok (value_from 0 w)) (Err OutOfRange)) (Err NotDigit)) w
    go true true u v = rw (value_same 0 w) (plain-decimal w p (digits-true w u), omega (arith, leb-true (value_from 0 w) 4294967295 v, value_same 0 w))
    go true false u v = (p, digits-true w u, omega (arith, leb-false (value_from 0 w) 4294967295 v, value_same 0 w))
    go false b u v = (p, odd_byte w u)

pub answer-says : (w : List ℕ) → Says (parse_u32 w) w
answer-says [] = refl
answer-says (x ∷ []) = by_digits (x ∷ []) (single-plain x)
answer-says (x ∷ y ∷ w) = go (eqb x 48) refl
  where
    go : (b : Bool) → eqb x 48 ≡ b → Says (pick b (Err LeadingZero) (digits_from 0 (x ∷ y ∷ w))) (x ∷ y ∷ w)
    go true h = (y, w, ap (λ (b : ℕ). b ∷ y ∷ w) (eqb-true x 48 h))
    go false h = by_digits (x ∷ y ∷ w) (several-plain x y w (eqb-false x 48 h))

-- ---- a coordinate's

minus-parse : (w v : List ℕ) → w ≡ 45 ∷ v → parse_i32 w ≡ negative (parse_u32 v)
minus-parse w v e = ap parse_i32 e

plus-parse : (w : List ℕ) → ((u : List ℕ) → w ≡ 45 ∷ u → ⊥) → parse_i32 w ≡ positive (parse_u32 w)
plus-parse [] n = refl
plus-parse (x ∷ w) n = rw (ne_eqb x 45 (λ q. n w (ap (λ (b : ℕ). b ∷ w) q)))

-- no sign leads digits
digits-unsigned : (w : List ℕ) → Digits w → (u : List ℕ) → w ≡ 45 ∷ u → ⊥
digits-unsigned w d u e = let (h, t) = rw e at d in omega (arith, h)

fault-parse : (f : Fault) (w v : List ℕ) → Behind w v → parse_u32 v ≡ Err f → parse_i32 w ≡ Err f
fault-parse f w v (inl e) q = minus-parse w v e ∙ ap negative q
fault-parse f w v (inr (e, n)) q = plus-parse w n ∙ ap positive (ap parse_u32 e ∙ q)

-- digits above m, which is below 2^32: too large, by the value or by the range of a side
over-parse : (m : ℕ) (v : List ℕ) → Above m v → ((n : ℕ) × (parse_u32 v ≡ Ok n) × (m < n)) ⊎ (parse_u32 v ≡ Err OutOfRange)
over-parse m v (p, d, l) = go (dec_le (value 0 v) 4294967295)
  where
    go : Dec (value 0 v ≤ 4294967295) → ((n : ℕ) × (parse_u32 v ≡ Ok n) × (m < n)) ⊎ (parse_u32 v ≡ Err OutOfRange)
    go (yes h) = inl (value 0 v, valued v (value 0 v) (plain-decimal v p d) (omega arith), l)
    go (no h) = inr (above-parse v (p, d, omega arith))

minus-over : (v : List ℕ) → Above 2147483648 v → negative (parse_u32 v) ≡ Err OutOfRange
minus-over v h = go (over-parse 2147483648 v h)
  where
    go : ((n : ℕ) × (parse_u32 v ≡ Ok n) × (2147483648 < n)) ⊎ (parse_u32 v ≡ Err OutOfRange) → negative (parse_u32 v) ≡ Err OutOfRange
    go (inl (n, q, l)) = rw (q, lt-leb n 2147483648 l)
    go (inr q) = rw q

plus-over : (v : List ℕ) → Above 2147483647 v → positive (parse_u32 v) ≡ Err OutOfRange
plus-over v h = go (over-parse 2147483647 v h)
  where
    go : ((n : ℕ) × (parse_u32 v ≡ Ok n) × (2147483647 < n)) ⊎ (parse_u32 v ≡ Err OutOfRange) → positive (parse_u32 v) ≡ Err OutOfRange
    go (inl (n, q, l)) = rw (q, lt-leb n 2147483647 l)
    go (inr q) = rw q

numbered : (z : ℤ) (w : List ℕ) → Coordinate z w → parse_i32 w ≡ Ok z
numbered z w c = go (parse_i32 w) (coordinate→integer w z c)
  where
    go : (s : Result ℤ Fault) → value_in s ≡ some z → s ≡ Ok z
    go (Ok y) q = cc
    go (Err f) q = let x : ◌≡◌ {A = ℕ} 0 1 = cc in absurd (omega arith)

pub says-signed : (r : Result ℤ Fault) (w : List ℕ) → SaysSigned r w → parse_i32 w ≡ r
says-signed (Ok z) w c = numbered z w c
says-signed (Err Empty) w (v, b, h) = fault-parse Empty w v b (says-answer (Err Empty) v h)
says-signed (Err LeadingZero) w (v, b, h) = fault-parse LeadingZero w v b (says-answer (Err LeadingZero) v h)
says-signed (Err NotDigit) w (v, b, h) = fault-parse NotDigit w v b (says-answer (Err NotDigit) v h)
says-signed (Err OutOfRange) w (inl (v, e, h)) = minus-parse w v e ∙ minus-over v h
says-signed (Err OutOfRange) w (inr (p, d, l)) = plus-parse w (digits-unsigned w d) ∙ plus-over w (p, d, l)

module _ (w v : List ℕ) where
  minus-says : w ≡ 45 ∷ v → (u : Result ℕ Fault) → Says u v → SaysSigned (negative u) w
  unfolding Coordinate ◌·◌ Word
  minus-says e (Ok n) (d, l) = go (leb n 2147483648) refl
    where
      go : (b : Bool) → leb n 2147483648 ≡ b → SaysSigned (pick b (Ok (neg_ℤ (pos n))) (Err OutOfRange)) w
      go true h = (n, inr ((45 ∷ [], v, e, refl, d), refl, leb-true n 2147483648 h))
      go false h = let (p, g, q) = decimal-plain n v d in inl (v, e, (p, g, omega (arith, leb-false n 2147483648 h)))
  minus-says e (Err Empty) h = (v, inl e, h)
  minus-says e (Err LeadingZero) h = (v, inl e, h)
  minus-says e (Err NotDigit) h = (v, inl e, h)
  minus-says e (Err OutOfRange) (p, g, l) = inl (v, e, (p, g, omega arith))

plus-says : (w : List ℕ) → ((u : List ℕ) → w ≡ 45 ∷ u → ⊥) → (r : Result ℕ Fault) → Says r w → SaysSigned (positive r) w
unfolding Coordinate
plus-says w s (Ok n) (d, l) = go (leb n 2147483647) refl
  where
    go : (b : Bool) → leb n 2147483647 ≡ b → SaysSigned (pick b (Ok (pos n)) (Err OutOfRange)) w
    go true h = (n, inl (d, refl, omega (arith, leb-true n 2147483647 h)))
    go false h = let (p, g, q) = decimal-plain n w d in inr (p, g, omega (arith, leb-false n 2147483647 h))
plus-says w s (Err Empty) h = (w, inr (refl, s), h)
plus-says w s (Err LeadingZero) h = (w, inr (refl, s), h)
plus-says w s (Err NotDigit) h = (w, inr (refl, s), h)
plus-says w s (Err OutOfRange) (p, g, l) = inr (p, g, omega arith)

pub signed-says : (w : List ℕ) → SaysSigned (parse_i32 w) w
signed-says [] = ([], inr (refl, λ u q. never q), refl)
signed-says (x ∷ w) = go (eqb x 45) refl
  where
    go : (b : Bool) → eqb x 45 ≡ b → SaysSigned (pick b (negative (parse_u32 w)) (positive (parse_u32 (x ∷ w)))) (x ∷ w)
    go true h = minus-says (x ∷ w) w (ap (λ (b : ℕ). b ∷ w) (eqb-true x 45 h)) (parse_u32 w) (answer-says w)
    go false h = plus-says (x ∷ w) (λ u q. eqb-false x 45 h (cc q)) (parse_u32 (x ∷ w)) (answer-says (x ∷ w))
