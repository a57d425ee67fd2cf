-- The array line and the whole header fit the grammar's.
use Rattle.std.proofs.Math.Path.{◌≡◌, refl, sym, ap}
use Rattle.std.proofs.Common.{◌∙◌, arith}
use Rattle.std.specs.Prelude.{◌↔◌, ◌⊎◌, ℕ}
use Rattle.std.proofs.Math.Logic.{inl, inr}
use Rattle.std.proofs.Math.Option.{Option, none, some}
use mathlib.Core.List.{List, [], ◌∷◌, ◌++◌, append_assoc}
use Rattle.std.proofs.Math.IntN.{ℤ}
use Rattle.text.specs.declared.TextLocation.{TextLocation}
use Rattle.text.specs.Ascii.{ascii}
use Rattle.text.specs.Yields.{Yields}
use Rattle.text.proofs.Yields.{yields-bind, yields-give}
use Rattle.text.specs.Reader.{ok, Reader}
use Rattle.lines.specs.Lines.{element, array_line, width_line}
use Rattle.header.specs.Header.{Head, ending, hotspot, rest, header}
use Rattle.grammar.specs.Lang.{Lang, Word, ◌·◌, All, Star}
use Rattle.grammar.specs.Grammar.{solid, Side, Coordinate, Skipped, Define, Symbol, Hotspot, Array, Mask, Header}
use Rattle.grammar.specs.Devices.{head_of}
use Rattle.grammar.proofs.Fits.{Follow, Any, Next, At, Fits, says, Begins, fit-bind, fit-run, fit-give, fit-done, fit-drop, fit-fork}
use Rattle.grammar.proofs.Pieces.{fit, begin, begins-any, begins-next, leading-fits}
use Rattle.grammar.proofs.Lines.{width_fits, height-fits, hot-fits}

pub fit-never : {A : Type 0} {q : Reader A} {b : A} (G : A → Type 0) {K : Lang} {F : Follow} → Yields q G → (G b → ⊥) → Fits q b ⊥ K F
fit-never {b = b} G y n = record { to = λ t i e q. absurd (n (y.yields t i b e q)); from = λ t i w r x d l f. absurd x }

-- ---- the array line

pub array-fits : (name : List ℕ) → All solid name → Fits (array_line 5 name) tt (Unit {0}) (Array name) Any
unfolding array_line element Array
array-fits name s = search fit depth 40 fits 10000

-- ---- the header

array-begins : (name : List ℕ) {G : Follow} → Begins (Next 115) (Array name) G
unfolding Array
array-begins name = search begin

define-begins : (K N L : Lang) {G : Follow} → Begins (Next 35) (Define K N · L) G
unfolding Define
define-begins K N L = search begin

module _ (name : List ℕ) (width height : ℕ) where
  abbrev head : Option (ℤ × ℤ) → Head
  head o = record { name = name; width = width; height = height; hot = o }

  abbrev Sides : List ℕ × ℕ → ℕ → Type 0
  Sides a h = (h ≡ height) × ((a ≡ (name, width)) × Unit {0})

  ending-fits : (a : List ℕ × ℕ) (h : ℕ) (o : Option (ℤ × ℤ)) (b : Head) {X : Type 0} → All solid a.0 → (X ↔ (record { name = a.0; width = a.1; height = h; hot = o } ≡ b)) → Fits (ending a.0 a.1 h o) b X (Array a.0) Any
  ending-fits a h o b s x = fit-done (array-fits a.0 s) (λ c. fit-give (record { name = a.0; width = a.1; height = h; hot = o }) x)

  sides-back : (a : List ℕ × ℕ) (h : ℕ) (p o : Option (ℤ × ℤ)) → record { name = a.0; width = a.1; height = h; hot = p } ≡ head o → Sides a h
  sides-back a h p o e = (ap (λ (b : Head). b.height) e, (ap {B = List ℕ × ℕ} (λ (b : Head). (b.name, b.width)) e, tt))

  hot_x : List ℕ → ℤ → Lang
  hot_x n x = Define (Word (n ++ ascii "_x_hot")) (Coordinate x)

  hot_y : List ℕ → ℤ → Lang
  hot_y n y = Define (Word (n ++ ascii "_y_hot")) (Coordinate y)

  hot-lines : (x0 y0 : ℤ) (a : List ℕ × ℕ) (h : ℕ) → All solid a.0 → Fits (hotspot a.0 (λ x y. ending a.0 a.1 h (some (x, y)))) (head (some (x0, y0))) (Sides a h) (hot_x a.0 x0 · hot_y a.0 y0 · Array a.0) Any
  unfolding hot_x hot_y
  hot-lines x0 y0 a h s =
      fit-drop (fit-bind x0 (λ x. Unit {0}) (hot_x a.0) (λ x. hot_y a.0 y0 · Array a.0) (λ x. Unit {0}) (λ x. hot-fits 3 130 a.0 (ascii "x_hot") x s) (λ x w k. tt) begins-any (λ x u.
      fit-drop (fit-bind y0 (λ y. Unit {0}) (hot_y a.0) (λ y. Array a.0) (λ y. Unit {0}) (λ y. hot-fits 4 140 a.0 (ascii "y_hot") y s) (λ y w k. tt) begins-any (λ y u.
      ending-fits a h (some (x, y)) (head (some (x0, y0))) s (there x y, back x y)))))
    where
      there : (x y : ℤ) → (y ≡ y0) × ((x ≡ x0) × Sides a h) → record { name = a.0; width = a.1; height = h; hot = some (x, y) } ≡ head (some (x0, y0))
      there x y (p, (q, (r, (o, u)))) = rw (p, q, r, o)

      back : (x y : ℤ) → record { name = a.0; width = a.1; height = h; hot = some (x, y) } ≡ head (some (x0, y0)) → (y ≡ y0) × ((x ≡ x0) × Sides a h)
      back x y e =
          let d : ◌≡◌ {A = Option (ℤ × ℤ)} (some (x, y)) (some (x0, y0)) = ap (λ (b : Head). b.hot) e in
          let g : ◌≡◌ {A = ℤ × ℤ} (x, y) (x0, y0) = cc in
          (ap (λ (r : ℤ × ℤ). r.1) g, (ap (λ (r : ℤ × ℤ). r.0) g, sides-back a h (some (x, y)) (some (x0, y0)) e))

  rest-fits : (o : Option (ℤ × ℤ)) (a : List ℕ × ℕ) (h : ℕ) → All solid a.0
      → Fits (rest a.0 a.1 h) (head o) (Sides a h) (Hotspot a.0 o · Array a.0) Any
  unfolding rest Hotspot ◌·◌ Word hot_x hot_y
  rest-fits none a h s =
      fit-fork 5 35 115 {K = Word (35 ∷ [])} refl (begins-next 35 []) (array-begins a.0)
      (fit-never (λ b. (z : ℤ × ℤ) × (b.hot ≡ some z)) (yields-bind _ (λ x. yields-bind _ (λ y. yields-bind _ (λ c. yields-give _ ((x, y), refl))))) (λ (z, q). let n : ◌≡◌ {A = ℕ} 0 1 = cc in omega arith))
      (ending-fits a h none (head none) s ((λ (r, (o, u)). rw (r, o)), sides-back a h none none)) (λ w. (there w, λ (c, (u, v, q, k, l)). inr (c, rw (q, k) l)))
    where
      there : (w : List ℕ) → ((⊥ × Word (35 ∷ []) w) ⊎ (Sides a h × Array a.0 w)) → Sides a h × (Hotspot a.0 none · Array a.0) w
      there w (inl (x, k)) = absurd x
      there w (inr (c, k)) = (c, ([], w, refl, refl, k))
  rest-fits (some (x0, y0)) a h s =
      fit-fork 5 35 115 refl (define-begins _ _ _) (array-begins a.0) (hot-lines x0 y0 a h s)
      (fit-never (λ b. b.hot ≡ none) (yields-bind _ (λ c. yields-give _ refl)) (λ q. let n : ◌≡◌ {A = ℕ} 0 1 = cc in omega arith))
      (λ w. (there w, λ (c, (u, v, q, (x, y, o, k, m), l)). inl (c, (x, y ++ v, q ∙ ap (λ (r : List ℕ). r ++ v) o ∙ append_assoc x y v, k, (y, v, refl, m, l)))))
    where
      there : (w : List ℕ) → ((Sides a h × (hot_x a.0 x0 · hot_y a.0 y0 · Array a.0) w) ⊎ (⊥ × Array a.0 w)) → Sides a h × (Hotspot a.0 (some (x0, y0)) · Array a.0) w
      there w (inl (c, (u, v, q, k, (x, y, o, m, l)))) = (c, (u ++ x, y, q ∙ ap (λ (r : List ℕ). u ++ r) o ∙ sym (append_assoc u x y), (u, x, refl, k, m), l))
      there w (inr (x, k)) = absurd x

  -- the header, with a limit on the width's symbol
  symbol-name : (lim : ℕ) (a : List ℕ × ℕ) (w : List ℕ) → Define (Symbol lim a.0) (Side a.1) w → All solid a.0
  unfolding Define Symbol ◌·◌
  symbol-name lim a w (u, v, q, k, (u1, v1, q1, k1, (u2, v2, q2, k2, l))) = k2.1

  pub header-fits : (lim : ℕ) (o : Option (ℤ × ℤ)) → Fits (header lim) (head o) (Unit {0}) (Star Skipped · Define (Symbol lim name) (Side width) · Define (Word (name ++ ascii "_height")) (Side height) · Hotspot name o · Array name) Any
  unfolding header
  header-fits lim o =
      fit-run leading-fits (define-begins _ _ _) (λ c. fit-drop (fit-bind (name, width) (λ a. Unit {0}) (λ a. Define (Symbol lim a.0) (Side a.1))
      (λ a. Define (Word (a.0 ++ ascii "_height")) (Side height) · Hotspot a.0 o · Array a.0) (λ a. All solid a.0) (λ a. width_fits lim a.0 a.1) (symbol-name lim) begins-any (λ a s.
      fit-drop (fit-bind height (λ h. Unit {0}) (λ h. Define (Word (a.0 ++ ascii "_height")) (Side h)) (λ h. Hotspot a.0 o · Array a.0) (λ h. Unit {0}) (λ h. height-fits a.0 h s) (λ h w k. tt) begins-any (λ h u. rest-fits o a h s)))))

-- the width line and the header are read from a place to a place exactly if what stands between is written as the grammar says
pub width-exactly : (lim : ℕ) (name : List ℕ) (n : ℕ) (t : List ℕ) (i e : TextLocation) → (width_line lim t i ≡ ok (name, n) e) ↔ At (Define (Symbol lim name) (Side n)) Any t i e
width-exactly lim name n = says (width_fits lim name n)

pub header-exactly : (lim : ℕ) (m : Mask) (t : List ℕ) (i e : TextLocation) → (header lim t i ≡ ok (head_of m) e) ↔ At (Header lim m) Any t i e
unfolding Header
header-exactly lim m = says (header-fits m.name m.width m.height lim m.hot)
