-- A printed number is written as the grammar writes it, and so are the lines that a listing is made of.
use Rattle.std.specs.Prelude.{◌≡◌, refl, ℕ, zero, suc, ◌+◌, ◌-◌, ◌*◌, ◌/◌, ◌%◌, ◌^◌, ◌<◌, List, [], ◌∷◌, ◌++◌, ltb, ℤ, pos, negsuc}
use Rattle.std.proofs.Common.{ap, ◌∙◌, inl, inr, arith, pow-suc, append-nil, lt-ltb, le-ltb}
use Prim.Native.String.{String}
use Rattle.std.proofs.Math.Decide.{dec_lt}
use Rattle.std.proofs.Math.Option.{Option, none, some}
use Rattle.text.specs.Ascii.{ascii}
use Rattle.text.specs.Place.{pick}
use Rattle.text.specs.Outcome.{Outcome, accepted, refused, unplaced}
use Rattle.integer.specs.Decimal.{value_from}
use Rattle.header.specs.Header.{Head}
use Rattle.print.specs.Decimal.{digits, decimal, signed}
use Rattle.print.proofs.Decimal.{digits_value}
use Rattle.print.specs.Output.{joined}
use Rattle.printing.specs.Printed.{hot_text, printed}
use Rattle.grammar.specs.Lang.{Lang, Word, ◌·◌}
use Rattle.grammar.specs.Grammar.{Digits, value, Decimal, Coordinate}
use Rattle.claims.specs.Terms.{Field, Signed, HotWords, Lines}
use Rattle.claims.specs.Written.{InRange, Hots, Printable}

-- ---- numbers

value-is : (v : ℕ) (w : List ℕ) → value v w ≡ value_from v w
value-is v [] = refl
value-is v (x ∷ w) = value-is (v * 10 + (x - 48)) w

both : (u v : List ℕ) → Digits u → Digits v → Digits (u ++ v)
both [] v h k = k
both (x ∷ u) v (h, g) k = (h, both u v g k)

all_digits_lem : (k n : ℕ) → Digits (digits k n)
unfolding digits
all_digits_lem zero n = tt
all_digits_lem (suc k) n = go (dec_lt n 10) (all_digits_lem k (n / 10))
  where
    go : Dec (n < 10) → Digits (digits k (n / 10)) → Digits (pick (ltb n 10) ((48 + n) ∷ []) (digits k (n / 10) ++ ((48 + n % 10) ∷ [])))
    go (yes l) h = rw (lt-ltb n 10 l) ((omega arith, omega arith), tt)
    go (no l) h = rw (le-ltb n 10 (omega arith)) (both (digits k (n / 10)) ((48 + n % 10) ∷ []) h ((omega arith, omega arith), tt))

-- the first digit of a number that is not 0
abbrev First : List ℕ → Type 0
First d = (x : ℕ) × (w : List ℕ) × (d ≡ x ∷ w) × (x ≡ 48 → ⊥)

lead : (k n : ℕ) → 0 < n → n < 10 ^ k → First (digits k n)
unfolding digits
lead zero n h l = absurd (omega arith)
lead (suc k) n h l = go (dec_lt n 10) (λ a b. lead k (n / 10) a b)
  where
    go : Dec (n < 10) → (0 < n / 10 → n / 10 < 10 ^ k → First (digits k (n / 10))) → First (pick (ltb n 10) ((48 + n) ∷ []) (digits k (n / 10) ++ ((48 + n % 10) ∷ [])))
    go (yes s) f = rw (lt-ltb n 10 s) (48 + n, [], refl, λ e. omega arith)
    go (no s) f = let (x, w, q, g) = f (omega arith) (omega (arith, pow-suc 10 k)) in rw (le-ltb n 10 (omega arith), q) (x, w ++ ((48 + n % 10) ∷ []), refl, g)

two : (n x d : ℕ) (w : List ℕ) → (x ≡ 48 → ⊥) → Digits (x ∷ (w ++ (d ∷ []))) → value 0 (x ∷ (w ++ (d ∷ []))) ≡ n → Decimal n (x ∷ (w ++ (d ∷ [])))
unfolding Decimal
two n x d [] h k v = (h, k, v)
two n x d (y ∷ w) h k v = (h, k, v)

-- a number of 64 bits is printed as the grammar writes it: its value, no leading zero
pub written : (n : ℕ) → n < 2 ^ 64 → Decimal n (decimal n)
unfolding digits Decimal
written n l = go (dec_lt n 10) (all_digits_lem 20 n) (value-is 0 (decimal n) ∙ digits_value 20 n (omega arith))
  where
    go : Dec (n < 10) → Digits (digits 20 n) → value 0 (digits 20 n) ≡ n → Decimal n (digits 20 n)
    go (yes s) a v = rw (lt-ltb n 10 s) (rw (lt-ltb n 10 s) at a, rw (lt-ltb n 10 s) at v)
    go (no s) a v =
        let (x, w, q, g) = lead 19 (n / 10) (omega arith) (omega arith) in
        rw (le-ltb n 10 (omega arith), q) (two n x (48 + n % 10) w g (rw (le-ltb n 10 (omega arith), q) at a) (rw (le-ltb n 10 (omega arith), q) at v))

-- a number of 32 bits with a sign
pub written-signed : (z : ℤ) → InRange z → Signed z (signed z)
unfolding Coordinate ◌·◌ Word
written-signed (pos n) l = ((n, inl (written n (omega arith), refl, l)), λ e. omega (arith, (rw e at (all_digits_lem 20 n)).0.0))
written-signed (negsuc n) l = (
  (suc n, inr ((45 ∷ [], decimal (suc n), refl, refl, written (suc n) (omega arith)), refl, omega arith)),
  λ e. (let z : decimal (suc n) ≡ 48 ∷ [] = cc in omega (arith, rw z at (digits_value 20 (suc n) (omega arith)))),
)

-- what the grammar writes is in range
pub ranged : (z : ℤ) (w : List ℕ) → Coordinate z w → InRange z
unfolding Coordinate
ranged z w (n, inl (d, q, l)) = rw q l
ranged z w (zero, inr (d, q, l)) = rw q (omega arith)
ranged z w (suc n, inr (d, q, l)) = rw q (omega arith)

-- ---- lines

both_words : (K L : Lang) (u v : List ℕ) → K u → L v → (K · L) (joined (u ∷ v ∷ []))
unfolding ◌·◌ joined
both_words K L u v k l = (u, v, ap (λ (x : List ℕ). u ++ x) (append-nil v), k, l)

three-words : (K L M : Lang) (u v w : List ℕ) → K u → L v → M w → (K · L · M) (joined (u ∷ v ∷ w ∷ []))
unfolding ◌·◌ joined
three-words K L M u v w k l m = (u, v ++ w, ap (λ (x : List ℕ). u ++ (v ++ x)) (append-nil w), k, (v, w, refl, l, m))

four-words : (J K L M : Lang) (t u v w : List ℕ) → J t → K u → L v → M w → (J · K · L · M) (joined (t ∷ u ∷ v ∷ w ∷ []))
unfolding ◌·◌ joined
four-words J K L M t u v w j k l m = (t, u ++ (v ++ w), ap (λ (x : List ℕ). t ++ (u ++ (v ++ x))) (append-nil w), j, (u, v ++ w, refl, k, (v, w, refl, l, m)))

quoted : (s : String) → Word (ascii s) (ascii s)
unfolding Word
quoted s = refl

field : (s : String) (n : ℕ) → n < 2 ^ 64 → Field s n (joined (ascii s ∷ decimal n ∷ []))
field s n l = both_words _ _ (ascii s) (decimal n) (quoted s) (written n l)

pub hots : (o : Option (ℤ × ℤ)) → Hots o → HotWords o (hot_text o)
hots none h = quoted "none"
hots (some (x, y)) (a, b) = three-words _ _ _ (signed x) (ascii " ") (signed y) (written-signed x a) (quoted " ") (written-signed y b)

pub lines : (a : Outcome Head) (k : ℕ) → Printable a → k < 2 ^ 64 → Lines a k (printed a k)
lines (accepted h) k (w, z, o) l =
    three-words _ _ _ _ _ _ (both_words _ _ _ _ (field "width " h.width w) (field "\nheight " h.height z))
    (both_words _ _ _ _ (quoted "\nhotspot ") (hots h.hot o)) (both_words _ _ _ _ (field "\nink " k l) (quoted "\n"))
lines (refused c p) k (n, b, i, j, s) l =
    three-words _ _ _ _ _ _ (field "refused " c n) (four-words _ _ _ _ _ _ _ _ (field " byte=" p.byte.0 b) (field ",line=" p.line.0 i) (field ":col=" p.column.0 j) (field ",start=" p.start.0 s)) (quoted "\n")
lines (unplaced c) k n l = both_words _ _ _ _ (field "refused " c n) (quoted "\n")
