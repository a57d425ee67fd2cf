-- The define lines fit the grammar's.
use Rattle.std.proofs.Math.Path.{◌≡◌, ap}
use Rattle.std.specs.Prelude.{refl, ◌↔◌, Bool, true, false, ℤ}
use Rattle.std.proofs.Common.{◌∙◌, inl, inr, arith, ne_eqb}
use Prim.Native.Nat.{ℕ, zero, suc, ◌+◌, ◌-◌, ◌*◌, ◌≤◌, ◌<◌}
use Rattle.std.proofs.Math.Decide.{dec_le}
use Rattle.std.proofs.Math.Option.{some}
use mathlib.Core.List.{List, [], ◌∷◌, ◌++◌}
use Rattle.std.proofs.Math.ListN.{length, length-append}
use Rattle.text.specs.Ascii.{ascii}
use Rattle.text.specs.Place.{pick}
use Rattle.text.specs.Reader.{Reader}
use Rattle.grammar.specs.Lang.{Lang, Word, ◌·◌, All}
use Rattle.grammar.specs.Grammar.{blank, solid, Digits, value, Decimal, Side, Coordinate, Define, Symbol}
use Rattle.symbol.specs.Symbol.{before, hash_define, end_width}
use Rattle.lines.specs.Lines.{positive, side, signed, line, width_line}
use Rattle.grammar.proofs.Tests.{both_true, number, integer, value-up, decimal-digits, integer→coordinate, coordinate→integer, before→ends, ends→before, number→decimal, decimal→number, positive-inv, positive_ok}
use Rattle.grammar.proofs.Fits.{Fits, Any, fit-token, fit-need, fit-want, fit-needed, fit-give, fit-done}
use Rattle.grammar.proofs.Pieces.{begin, begins-cat, begins-all, solid-blank, fit-fixed, fit-two, fit-gap, line_end-fits, line_end-solid, token-fits}

-- ---- numbers: solid bytes, and few of them

digit-solid : (x : ℕ) → 48 ≤ x → solid x ≡ true
digit-solid x h = rw (ne_eqb x 32 (λ q. omega arith), ne_eqb x 9 (λ q. omega arith), ne_eqb x 10 (λ q. omega arith))

digits-solid : (w : List ℕ) → Digits w → All solid w
digits-solid [] d = tt
digits-solid (x ∷ w) d = (digit-solid x d.0.0, digits-solid w d.1)

abbrev up : ℕ → ℕ → ℕ
up zero v = v
up (suc k) v = up k (v * 10)

up-mono : (k v u : ℕ) → v ≤ u → up k v ≤ up k u
up-mono zero v u h = h
up-mono (suc k) v u h = up-mono k (v * 10) (u * 10) (omega arith)

up-value : (k v : ℕ) (w : List ℕ) → k ≤ length w → up k v ≤ value v w
up-value zero v w h = value-up v w
up-value (suc k) v [] h = absurd (omega arith)
up-value (suc k) v (x ∷ w) h = omega (arith, up-mono k (v * 10) (v * 10 + (x - 48)) (omega arith), up-value k (v * 10 + (x - 48)) w (omega arith))

decimal-short : (n : ℕ) (w : List ℕ) → Decimal n w → n < 4294967296 → length w ≤ 10
unfolding Decimal
decimal-short n [] d l = omega arith
decimal-short n (x ∷ []) d l = omega arith
decimal-short n (x ∷ y ∷ w) d l = go (dec_le (suc (suc (length w))) 10)
  where
    go : Dec (suc (suc (length w)) ≤ 10) → suc (suc (length w)) ≤ 10
    go (yes k) = k
    go (no k) =
        let a : 10000000000 ≤ up 10 (0 * 10 + (x - 48)) = up-mono 10 1 (0 * 10 + (x - 48)) (omega (arith, d.0, d.1.0.0)) in
        absurd (omega (arith, a, up-value 10 (0 * 10 + (x - 48)) (y ∷ w) (omega arith), d.2))

-- what a token must be: solid, not empty, at most 11 bytes
abbrev pub Token : List ℕ → Type 0
Token w = All solid w × (length w ≤ 11) × (0 < length w)

decimal-token : (n : ℕ) (w : List ℕ) → Decimal n w → n < 4294967296 → All solid w × (length w ≤ 10) × (0 < length w)
decimal-token n w d l = let (a, b) = decimal-digits n w d in (digits-solid w a, decimal-short n w d l, b)

side-token : (n : ℕ) (w : List ℕ) → Side n w → Token w
unfolding Side
side-token n w (d, p, l) = let (a, b, c) = decimal-token n w d l in (a, omega arith, c)

pub all_join : (g : ℕ → Bool) (u v : List ℕ) → All g u → All g v → All g (u ++ v)
all_join g [] v a b = b
all_join g (x ∷ u) v a b = (a.0, all_join g u v a.1 b)

-- of a closed list, by computing
abbrev allb : (ℕ → Bool) → List ℕ → Bool
allb g [] = true
allb g (x ∷ w) = pick (g x) (allb g w) false

pub all-test : (g : ℕ → Bool) (w : List ℕ) → allb g w ≡ true → All g w
all-test g [] q = tt
all-test g (x ∷ w) q = let (a, b) = both_true (g x) (allb g w) q in (a, all-test g w b)

pub all_left : (g : ℕ → Bool) (u v : List ℕ) → All g (u ++ v) → All g u
all_left g [] v a = tt
all_left g (x ∷ u) v a = (a.0, all_left g u v a.1)

-- ---- a line with a known symbol

pub line-fits : {A : Type 0} (c : ℕ) (name z : List ℕ) (f : List ℕ → Reader A) (N : A → Lang) (v : A) → All solid name → ((w : List ℕ) → N v w → Token w) → ((w : List ℕ) → Fits (f w) v (N v w × Unit {0}) (Word []) Any)
    → Fits (line c name (95 ∷ z) f) v (Unit {0}) (Define (Word (name ++ (95 ∷ z))) (N v)) Any
unfolding Define
line-fits c name z f N v s n k =
    fit-fixed c hash_define (λ a. fit-gap c (search begin) (λ a. fit-two c name (95 ∷ z) (λ a. fit-gap c (begins-cat _ (begins-all blank solid solid-blank (λ w x. ((n w x).0, (n w x).2)))) (λ a.
    fit-token (token-fits c 11) line_end-solid (λ w x. ((n w x).0, (n w x).1)) (λ w x. fit-done (line_end-fits c) (λ a. k w))))))

-- ---- the width line

module _ (lim : ℕ) (name : List ℕ) (n : ℕ) where
  pub symbol-solid : (w : List ℕ) → Symbol lim name w → All solid w × (length w ≤ lim)
  unfolding Symbol
  symbol-solid w (q, a, l) = (rw q (all_join solid name (ascii "_width") a (all-test solid (ascii "_width") refl)), l)

  pub symbol-begins : (w : List ℕ) → Symbol lim name w → All solid w × (0 < length w)
  unfolding Symbol
  symbol-begins w (q, a, l) = ((symbol-solid w (q, a, l)).0, omega (arith, ap length q, length-append name (ascii "_width")))

  last : (s w nm : List ℕ) (v k : ℕ) → All solid s → length s ≤ lim → before end_width s ≡ some nm → number w ≡ some v → positive v ≡ some k
      → (Side n w × (Symbol lim name s × Unit {0})) ↔ (◌≡◌ {A = List ℕ × ℕ} (nm, k) (name, n))
  unfolding Side Symbol
  last s w nm v k hs ls q r o = (go, back)
    where
      go : Side n w × (Symbol lim name s × Unit {0}) → ◌≡◌ {A = List ℕ × ℕ} (nm, k) (name, n)
      go ((d, p, l), ((e, a, b), x)) =
          let g : nm ≡ name = cc (q, ap (before end_width) e, ends→before end_width name) in
          let h : v ≡ n = cc (r, decimal→number w n d l) in
          let j : k ≡ n = cc (o, ap positive h, positive_ok n p) in cc

      back : ◌≡◌ {A = List ℕ × ℕ} (nm, k) (name, n) → Side n w × (Symbol lim name s × Unit {0})
      back e =
          let g : nm ≡ name = ap (λ (r : List ℕ × ℕ). r.0) e in
          let h : k ≡ n = ap (λ (r : List ℕ × ℕ). r.1) e in
          let (x, y) = positive-inv v k o in
          let (d, l) = number→decimal w v r in
          let b : s ≡ name ++ end_width = before→ends end_width s nm q ∙ ap (λ (m : List ℕ). m ++ end_width) g in
          let j : v ≡ n = omega arith in
          ((rw j at d, omega arith, omega arith), ((b, all_left solid name end_width (rw b at hs), ls), tt))

  last' : (w : List ℕ) {X : Type 0} (v : ℕ) → Side n w × X → number w ≡ some v → positive v ≡ some n
  unfolding Side
  last' w v ((d, p, l), x) r = let h : v ≡ n = cc (r, decimal→number w n d l) in rw h (positive_ok n p)

  pub width_fits : Fits (width_line lim) (name, n) (Unit {0}) (Define (Symbol lim name) (Side n)) Any
  unfolding width_line Define Symbol Side
  width_fits =
      fit-fixed 1 hash_define (λ a. fit-gap 1 (begins-cat _ (begins-all blank solid solid-blank symbol-begins)) (λ a. fit-token (token-fits 1 lim) (search begin) symbol-solid (λ s hs.
      fit-want 1 (before end_width s) (λ x. (name, rw x.0.0 (ends→before end_width name))) (λ nm q.
      fit-gap 1 (begins-cat _ (begins-all blank solid solid-blank (λ w x. ((side-token n w x).0, (side-token n w x).2)))) (λ a. fit-token (token-fits 1 11) line_end-solid (λ w x. ((side-token n w x).0, (side-token n w x).1)) (λ w hw.
      fit-done (line_end-fits 1) (λ a. fit-need _ (number w) (λ x. (n, decimal→number w n x.0.0 x.0.2)) (λ v r.
      fit-need 21 (positive v) (λ x. (n, last' w v x r)) (λ k o. fit-give (nm, k) (last s w nm v k hs.0 hs.1 q r o))))))))))

-- ---- the values of tokens

pub side-fits : (c d n : ℕ) (w : List ℕ) → Fits (side c d w) n (Side n w × Unit {0}) (Word []) Any
unfolding Side
side-fits c d n w = fit-need _ (number w) (λ x. (n, known-side x)) (λ v r. fit-needed d (positive v) ((λ x. last' 0 [] n w v x r), back v r))
  where
    known-side : Side n w × Unit {0} → number w ≡ some n
    known-side (x, y) = decimal→number w n x.0 x.2

    back : (v : ℕ) → number w ≡ some v → positive v ≡ some n → Side n w × Unit {0}
    back v r o = let (x, y) = positive-inv v n o in let (d, l) = number→decimal w v r in ((rw x at d, y, omega arith), tt)

coordinate-token : (z : ℤ) (w : List ℕ) → Coordinate z w → Token w
unfolding Coordinate ◌·◌ Word
coordinate-token z w (n, inl (d, q, l)) = let (a, b, c) = decimal-token n w d (omega arith) in (a, omega arith, c)
coordinate-token z w (n, inr ((u, v, p, k, d), q, l)) =
    let (a, b, c) = decimal-token n v d (omega arith) in
    let e : w ≡ 45 ∷ v = p ∙ ap (λ (r : List ℕ). r ++ v) k in rw e ((refl, a), omega arith, omega arith)

pub coordinate-fits : (d : ℕ) (z : ℤ) (w : List ℕ) → Fits (signed d w) z (Coordinate z w × Unit {0}) (Word []) Any
coordinate-fits d z w = fit-needed _ (integer w) ((λ x. coordinate→integer w z x.0), λ q. (integer→coordinate w z q, tt))

-- ---- the lines of the header

pub height-fits : (name : List ℕ) (n : ℕ) → All solid name → Fits (line 2 name (ascii "_height") (side 120 22)) n (Unit {0}) (Define (Word (name ++ ascii "_height")) (Side n)) Any
height-fits name n s = line-fits 2 name (ascii "height") (side 120 22) Side n s (side-token n) (side-fits 120 22 n)

pub hot-fits : (c d : ℕ) (name z : List ℕ) (v : ℤ) → All solid name → Fits (line c name (95 ∷ z) (signed d)) v (Unit {0}) (Define (Word (name ++ (95 ∷ z))) (Coordinate v)) Any
hot-fits c d name z v s = line-fits c name z (signed d) Coordinate v s (coordinate-token v) (coordinate-fits d v)
