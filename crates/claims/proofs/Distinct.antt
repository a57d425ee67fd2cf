-- No two hotspots are written alike, nor the lines of two masks of which something else is told.
use Rattle.std.specs.Prelude.{◌≡◌, refl, ℕ, ◌<◌, List, [], ◌∷◌, ◌++◌, ℤ}
use Rattle.std.proofs.Common.{sym, ◌∙◌, inl, inr, arith, append_assoc}
use Rattle.std.proofs.Math.Option.{Option, none, some}
use Rattle.text.specs.Ascii.{ascii}
use Rattle.text.specs.Outcome.{Outcome, accepted}
use Rattle.header.specs.Header.{Head}
use Rattle.printing.specs.Printed.{hot_text}
use Rattle.listing.specs.Listing.{listed, listing}
use Rattle.grammar.specs.Lang.{Word, ◌·◌}
use Rattle.grammar.specs.Grammar.{Digits, value, Decimal, Coordinate}
use Rattle.grammar.proofs.Tests.{decimal-digits, coordinate→integer}
use Rattle.claims.specs.Terms.{Signed, HotWords, Lines, Possible, Same}
use Rattle.claims.proofs.Written.{hots}
use Rattle.claims.proofs.Prints.{hot-ranges, prints}

-- ---- words up to a byte that is not in them

abbrev Free : ℕ → List ℕ → Type 0
Free b [] = Unit {0}
Free b (x ∷ w) = (x ≡ b → ⊥) × Free b w

free-both : (b : ℕ) (u v : List ℕ) → Free b u → Free b v → Free b (u ++ v)
free-both b [] v f g = g
free-both b (x ∷ u) v (n, f) g = (n, free-both b u v f g)

-- the byte ends both, so they are the same, and so is what follows
split : (b : ℕ) (u v x y : List ℕ) → Free b u → Free b v → u ++ (b ∷ x) ≡ v ++ (b ∷ y) → (u ≡ v) × (x ≡ y)
split b [] [] x y f g e = (refl, cc)
split b [] (d ∷ v) x y f (n, g) e = absurd (n cc)
split b (c ∷ u) [] x y (n, f) g e = absurd (n cc)
split b (c ∷ u) (d ∷ v) x y (n, f) (m, g) e = let (p, q) = split b u v x y f g cc in (cc, q)

-- the same beginning leaves the same
behind : (u x y : List ℕ) → u ++ x ≡ u ++ y → x ≡ y
behind [] x y e = e
behind (b ∷ u) x y e = behind u x y cc

-- ---- numbers

digits-free : (b : ℕ) (w : List ℕ) → b < 48 → Digits w → Free b w
digits-free b [] l d = tt
digits-free b (x ∷ w) l ((h, k), d) = ((λ e. omega arith), digits-free b w l d)

decimal-free : (b n : ℕ) (w : List ℕ) → b < 48 → Decimal n w → Free b w
decimal-free b n w l d = digits-free b w l (decimal-digits n w d).0

decimal-value : (n : ℕ) (w : List ℕ) → Decimal n w → value 0 w ≡ n
unfolding Decimal
decimal-value n [] d = absurd d
decimal-value n (x ∷ []) (d, v) = v
decimal-value n (x ∷ y ∷ w) (z, d, v) = v

decimal-same : (m n : ℕ) (w : List ℕ) → Decimal m w → Decimal n w → m ≡ n
decimal-same m n w d e = sym (decimal-value m w d) ∙ decimal-value n w e

signed-free : (b : ℕ) (z : ℤ) (w : List ℕ) → b < 45 → Signed z w → Free b w
unfolding Coordinate ◌·◌ Word
signed-free b z w l ((n, inl (d, q, h)), k) = decimal-free b n w (omega arith) d
signed-free b z w l ((n, inr ((u, v, p, m, d), q, h)), k) = rw (p, m) ((λ e. omega arith), decimal-free b n v (omega arith) d)

signed_same : (x y : ℤ) (w : List ℕ) → Signed x w → Signed y w → x ≡ y
signed_same x y w h k = cc (coordinate→integer w x h.0, coordinate→integer w y k.0)

-- ---- hotspots

none_free : (b : ℕ) → b < 101 → Free b (ascii "none")
none_free b l = ((λ e. omega arith), ((λ e. omega arith), ((λ e. omega arith), ((λ e. omega arith), tt))))

hot-free : (b : ℕ) (o : Option (ℤ × ℤ)) (w : List ℕ) → b < 32 → HotWords o w → Free b w
unfolding ◌·◌ Word
hot-free b none w l q = rw q (none_free b (omega arith))
hot-free b (some (x, y)) w l (u, v, q, k, (s, z, r, p, m)) =
    rw (q, r, p) (free-both b u (32 ∷ z) (signed-free b x u (omega arith) k) ((λ e. omega arith), signed-free b y z (omega arith) m))

-- two numbers have a space between them, `none` has not
spaced : (u v : List ℕ) → Free 32 (u ++ (32 ∷ v)) → ⊥
spaced [] v (n, f) = n refl
spaced (x ∷ u) v (n, f) = spaced u v f

none_apart : (x y : ℤ) (w : List ℕ) → HotWords none w → HotWords (some (x, y)) w → ⊥
unfolding ◌·◌ Word
none_apart x y w e (u, v, q, k, (s, z, r, p, m)) =
    let f : u ++ (32 ∷ z) ≡ ascii "none" = cc (q, r, p, e) in
    spaced u z (rw f (none_free 32 (omega arith)))

hot-same : (a b : Option (ℤ × ℤ)) (w : List ℕ) → HotWords a w → HotWords b w → a ≡ b
unfolding ◌·◌ Word
hot-same none none w h k = refl
hot-same none (some (x, y)) w h k = absurd (none_apart x y w h k)
hot-same (some (x, y)) none w h k = absurd (none_apart x y w k h)
hot-same (some (x, y)) (some (x', y')) w (u, v, q, k, (s, z, r, p, m)) (u', v', q', k', (s', z', r', p', m')) =
    let f : u ++ (32 ∷ z) ≡ u' ++ (32 ∷ z') = cc (q, r, p, q', r', p') in
    let (a, b) = split 32 u u' z z' (signed-free 32 x u (omega arith) k) (signed-free 32 x' u' (omega arith) k') f in
    let c : x ≡ x' = signed_same x x' u k (rw a k') in
    let d : y ≡ y' = signed_same y y' z m (rw b m') in
    cc

pub same-hotspot : (a b : Option (ℤ × ℤ)) → Possible a → Possible b → hot_text a ≡ hot_text b → a ≡ b
same-hotspot a b (n, u, h) (m, v, k) e = hot-same a b (hot_text b) (rw e at (hots a (hot-ranges n a u h))) (hots b (hot-ranges m b v k))

-- ---- lines

-- what a line tells of a mask, and what follows the line, are the same if the texts are
decimal-line : (m n : ℕ) (u v x y : List ℕ) → Decimal m u → Decimal n v → u ++ (10 ∷ x) ≡ v ++ (10 ∷ y) → (m ≡ n) × (x ≡ y)
decimal-line m n u v x y d e q =
    let (a, b) = split 10 u v x y (decimal-free 10 m u (omega arith) d) (decimal-free 10 n v (omega arith) e) q in (decimal-same m n u d (rw a e), b)

hot-line : (o p : Option (ℤ × ℤ)) (u v x y : List ℕ) → HotWords o u → HotWords p v → u ++ (10 ∷ x) ≡ v ++ (10 ∷ y) → (o ≡ p) × (x ≡ y)
hot-line o p u v x y h k q =
    let (a, b) = split 10 u v x y (hot-free 10 o u (omega arith) h) (hot-free 10 p v (omega arith) k) q in (hot-same o p u h (rw a k), b)

-- the text from its fourth, third, second line on, and all of it
abbrev from_ink : List ℕ → List ℕ
from_ink i = ascii "ink " ++ (i ++ (10 ∷ []))

abbrev from_hot : List ℕ → List ℕ → List ℕ
from_hot o i = ascii "hotspot " ++ (o ++ (10 ∷ from_ink i))

abbrev from_height : List ℕ → List ℕ → List ℕ → List ℕ
from_height h o i = ascii "height " ++ (h ++ (10 ∷ from_hot o i))

abbrev from_width : List ℕ → List ℕ → List ℕ → List ℕ → List ℕ
from_width w h o i = ascii "width " ++ (w ++ (10 ∷ from_height h o i))

record Four (h : Head) (k : ℕ) (t : List ℕ) : Type 0 where
  pub width : List ℕ
  pub height : List ℕ
  pub hot : List ℕ
  pub ink : List ℕ
  pub whole : t ≡ from_width width height hot ink
  pub wide : Decimal h.width width
  pub high : Decimal h.height height
  pub spot : HotWords h.hot hot
  pub inked : Decimal k ink

right : (p a q b r c s f t : List ℕ) → ((p ++ a) ++ (q ++ b)) ++ ((r ++ c) ++ ((s ++ f) ++ t)) ≡ p ++ (a ++ (q ++ (b ++ (r ++ (c ++ (s ++ (f ++ t)))))))
right p a q b r c s f t = simp append_assoc

four : (h : Head) (k : ℕ) (t : List ℕ) → Lines (accepted h) k t → Four h k t
unfolding ◌·◌ Word
four h k t (u, v, q, (a, b, q₁, (a₁, a₂, q₂, k₂, d), (b₁, b₂, q₃, k₃, e)), (c, z, q₄, (c₁, c₂, q₅, k₅, x), (f, g, q₆, (f₁, f₂, q₇, k₇, i), k₈))) =
    let w : t ≡ ((ascii "width " ++ a₂) ++ (ascii "\nheight " ++ b₂)) ++ ((ascii "\nhotspot " ++ c₂) ++ ((ascii "\nink " ++ f₂) ++ ascii "\n")) = cc (q, q₁, q₂, k₂, q₃, k₃, q₄, q₅, k₅, q₆, q₇, k₇, k₈) in
    record {
      width = a₂;
      height = b₂;
      hot = c₂;
      ink = f₂;
      whole = w ∙ right (ascii "width ") a₂ (ascii "\nheight ") b₂ (ascii "\nhotspot ") c₂ (ascii "\nink ") f₂ (ascii "\n");
      wide = d;
      high = e;
      spot = x;
      inked = i;
    }

four_same : (h g : Head) (j k : ℕ) (t : List ℕ) → Four h j t → Four g k t → Same h g j k
four_same h g j k t a b =
    let w : from_width a.width a.height a.hot a.ink ≡ from_width b.width b.height b.hot b.ink = sym a.whole ∙ b.whole in
    let (p, q) = decimal-line h.width g.width a.width b.width (from_height a.height a.hot a.ink) (from_height b.height b.hot b.ink) a.wide b.wide (behind (ascii "width ") _ _ w) in
    let (r, s) = decimal-line h.height g.height a.height b.height (from_hot a.hot a.ink) (from_hot b.hot b.ink) a.high b.high (behind (ascii "height ") _ _ q) in
    let (o, i) = hot-line h.hot g.hot a.hot b.hot (from_ink a.ink) (from_ink b.ink) a.spot b.spot (behind (ascii "hotspot ") _ _ s) in
    let (n, e) = decimal-line j k a.ink b.ink [] [] a.inked b.inked (behind (ascii "ink ") _ _ i) in
    record { width = p; height = r; hot = o; ink = n }

lines_same : (a b : Outcome Head) (h g : Head) (j k : ℕ) (t u : List ℕ) → Lines a j t → Lines b k u → a ≡ accepted h → b ≡ accepted g → t ≡ u → Same h g j k
lines_same a b h g j k t u l m q r e = four_same h g j k u (four h j u (rw (q, e) at l)) (four g k u (rw r at m))

pub same-told : (text name cells text' name' cells' : List ℕ) (h g : Head)
    → (listed text name cells).told ≡ accepted h → (listed text' name' cells').told ≡ accepted g → listing text name cells ≡ listing text' name' cells'
    → Same h g (listed text name cells).ink (listed text' name' cells').ink
same-told t n c t' n' c' h g q r e = lines_same _ _ h g _ _ _ _ (prints t n c) (prints t' n' c') q r e
