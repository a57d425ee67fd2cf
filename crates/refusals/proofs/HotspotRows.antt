-- The refusals of the hotspot's lines, two-sided: 3, 131 to 134 and 4, 141 to 144.
use Rattle.std.specs.Prelude.{◌≡◌, ◌↔◌, ◌⊎◌, ℕ, ◌+◌, ◌≤◌, Bool, length, eqb, ℤ, Err}
use Rattle.std.proofs.Math.Path.{refl, ap}
use Rattle.std.proofs.Common.{sym, ◌∙◌, arith, eqb-true, eq-eqb, ne_eqb}
use Rattle.std.proofs.Math.Logic.{inl, inr}
use Rattle.std.proofs.Math.Option.{none, some}
use Rattle.std.proofs.Math.Bool.{true, false}
use mathlib.Core.List.{List, [], ◌∷◌, ◌++◌}
use Rattle.std.proofs.lemmas.Bool.{eqb-false}
use Rattle.text.specs.declared.TextLocation.{TextLocation}
use Rattle.text.specs.Ascii.{ascii}
use Rattle.text.specs.Place.{start, past, after, rest as rest_at}
use Rattle.text.specs.Reader.{ok, stop, bad, Reader, ◌>>=◌}
use Rattle.text.specs.Leaf.{give, fork, fork_of, choose}
use Rattle.text.specs.Outcome.{unplaced}
use Rattle.lexical.specs.Lexical.{leading}
use Rattle.integer.specs.declared.Fault.{Fault}
use Rattle.integer.specs.declared.Fault.TheVariants.{Empty, LeadingZero, NotDigit, OutOfRange}
use Rattle.integer.specs.Decimal.{parse_i32, fault_number, fault_in}
use Rattle.lines.specs.Lines.{line, side, signed, width_line}
use Rattle.header.specs.Header.{Head, ending, hotspot, rest, header}
use Rattle.image.specs.Reading.{reading}
use Rattle.grammar.specs.Lang.{Lang, Word, Lit, ◌·◌, All}
use Rattle.grammar.specs.Grammar.{Mask, solid, Side, Coordinate, Define}
use Rattle.grammar.proofs.Tests.{integer}
use Rattle.grammar.proofs.Fits.{Any, Next, At, Fits, Begins, fit-drop, fit-bind, fit-last, fit-give}
use Rattle.grammar.proofs.Pieces.{begins-any}
use Rattle.grammar.proofs.Lines.{height-fits, hot-fits}
use Rattle.faults.specs.Terms.{SaysSigned}
use Rattle.claims.specs.Terms.{Begun}
use Rattle.claims.proofs.Numbers.{no_number, in_header, four, Numbered, numbers, width-numbered, array-numbered, placed-number, untold}
use Rattle.refusals.specs.Terms.{NoXLine, BadX, NoYLine, BadY, Token, Front, No, Placed}
use Rattle.refusals.proofs.Stages.{both_ways, assoc, given, chain, Quiet, stop-second, bad-second, need-told, at_both, at-parts, stage-stop, later-stop, later-bad, one_end, none_after, after_stop, after-bad, begun}
use Rattle.refusals.proofs.Integers.{coordinate-fault}
use Rattle.refusals.proofs.Lines.{known, known-fits, raw, define-begins, line-is}
use Rattle.refusals.proofs.HeaderRows.{quiets, other, width-quiet, told-stop, told-bad, begun-out, begun-in, first, first_fits, front-name, known-quiet}

-- ---- the header up to the height line's end

-- the name, the width, the height
abbrev pub Three : Type 0
Three = (List ℕ × ℕ) × ℕ

unfoldable pub second : ℕ → Reader Three
second limit = first limit >>= λ nw. line 2 nw.0 (ascii "_height") (side 120 22) >>= λ h. give (nw, h)

abbrev pub Both : ℕ → Three → Lang
Both limit a = Front limit a.0.0 (Side a.0.1) · Define (Word (a.0.0 ++ ascii "_height")) (Side a.1)

pub second_fits : (limit : ℕ) (a : Three) → Fits (second limit) a (Unit {0}) (Both limit a) Any
unfolding second
second_fits limit ((name, w), h) =
    fit-drop (fit-bind (name, w) (λ nw. Unit {0}) (λ nw. Front limit nw.0 (Side nw.1)) (λ nw. Define (Word (nw.0 ++ ascii "_height")) (Side h)) (λ nw. All solid nw.0) (first_fits limit) (λ nw u k. front-name limit nw.0 (Side nw.1) u k) begins-any (λ nw s.
    fit-drop (fit-last h (λ x. Unit {0}) (λ x. Define (Word (nw.0 ++ ascii "_height")) (Side x)) (λ x. height-fits nw.0 x s) (λ x. fit-give (nw, x) (there nw x, λ e. (ap (λ (r : Three). r.1) e, (ap (λ (r : Three). r.0) e, tt)))))))
  where
    there : (nw : List ℕ × ℕ) (x : ℕ) → (x ≡ h) × ((nw ≡ (name, w)) × Unit {0}) → ◌≡◌ {A = Three} (nw, x) ((name, w), h)
    there nw x (p, (q, u)) = rw (p, q)

pub both-name : (limit : ℕ) (a : Three) (w : List ℕ) → Both limit a w → All solid a.0.0
both-name limit a w k = unfold ◌·◌ in (let (u, v, q, x, y) = k in front-name limit a.0.0 (Side a.0.1) u x)

-- then
abbrev pub further : Three → Reader Head
further a = rest a.0.0 a.0.1 a.1

pub header-second : (limit : ℕ) → header limit ≡ (second limit >>= further)
unfolding header second first
header-second limit =
    sym (assoc (leading 1 true) (λ a. width_line limit) _) ∙ sym (chain _ _ further (λ nw. chain _ _ further (λ h. given (nw, h) further)))

-- ---- `#` opens the hotspot's lines

-- what stands after the `#` branch is chosen, and after the other
abbrev pub hot : Three → Reader Head
hot a = hotspot a.0.0 (λ x y. ending a.0.0 a.0.1 a.1 (some (x, y)))

abbrev pub plain : Three → Reader Head
plain a = ending a.0.0 a.0.1 a.1 none

pub is-next : (x : ℕ) (l : List ℕ) → Dec (Next x l)
unfolding Next
is-next x [] = no (λ k. k)
is-next x (y ∷ l) = go (eqb y x) refl
  where
    go : (b : Bool) → eqb y x ≡ b → Dec (y ≡ x)
    go true q = yes (eqb-true y x q)
    go false q = no (eqb-false y x q)

module _ (a : Three) (t : List ℕ) (m : TextLocation) where
  pub hashed : Next 35 (rest_at t m) → further a t m ≡ hot a t m
  unfolding rest fork Next
  hashed k = go (rest_at t m) k
    where
      go : (l : List ℕ) → Next 35 l → fork_of 5 35 (hot a) 115 (plain a) l t m ≡ hot a t m
      go [] k = absurd k
      go (b ∷ l) k = rw (eq-eqb b 35 k)

  pub unhashed : (Next 35 (rest_at t m) → ⊥) → (further a t m ≡ plain a t m) ⊎ ((q : TextLocation) × (further a t m ≡ stop 5 q))
  unfolding rest fork Next
  unhashed k = go (rest_at t m) k
    where
      two : (b : Bool) (e : TextLocation) → (choose 5 e (hot a) (plain a) false b t m ≡ plain a t m) ⊎ ((q : TextLocation) × (choose 5 e (hot a) (plain a) false b t m ≡ stop 5 q))
      two true e = inl refl
      two false e = inr (e, refl)

      go : (l : List ℕ) → (Next 35 l → ⊥) → (fork_of 5 35 (hot a) 115 (plain a) l t m ≡ plain a t m) ⊎ ((q : TextLocation) × (fork_of 5 35 (hot a) 115 (plain a) l t m ≡ stop 5 q))
      go [] k = inr (m, refl)
      go (b ∷ l) k = rw (ne_eqb b 35 k) (two (eqb b 115) (after b m))

-- ---- the line for `_x_hot`

abbrev pub hot_x : List ℕ → Reader (List ℕ)
hot_x name = known 3 name (ascii "_x_hot")

-- what is made of its token
abbrev pub left : Three → List ℕ → Reader Head
left a w = signed 130 w >>= λ x. line 4 a.0.0 (ascii "_y_hot") (signed 140) >>= λ y. ending a.0.0 a.0.1 a.1 (some (x, y))

pub hot-is : (a : Three) → hot a ≡ (hot_x a.0.0 >>= left a)
hot-is a = ap (λ (p : Reader ℤ). p >>= λ x. line 4 a.0.0 (ascii "_y_hot") (signed 140) >>= λ y. ending a.0.0 a.0.1 a.1 (some (x, y))) (sym (line-is 3 a.0.0 (ascii "_x_hot") (signed 130))) ∙ assoc (hot_x a.0.0) (signed 130) _

hot-x-numbered : (name : List ℕ) → Numbered 3 3 no_number (hot_x name)
unfolding known raw
hot-x-numbered name = search numbers depth 40 fits 10000

pub left-numbered : (a : Three) (w : List ℕ) → Numbered 4 5 in_header (left a w)
left-numbered a w = search (numbers, array-numbered) depth 40 fits 10000

pub plain-numbered : (a : Three) → Numbered 5 5 no_number (plain a)
plain-numbered a = search (numbers, array-numbered)

pub second-numbered : (limit : ℕ) → Numbered 1 2 in_header (second limit)
unfolding second first
second-numbered limit = search (numbers, width-numbered) depth 40 fits 10000

second-quiet : (limit : ℕ) {d : ℕ} → four (other d) 110 ≡ true → eqb 21 d ≡ false → four (other d) 120 ≡ true → eqb 22 d ≡ false → Quiet d (second limit)
unfolding second first
second-quiet limit a b x y = search (quiets, width-quiet) depth 40 fits 10000

module _ (limit : ℕ) (a : Three) (t : List ℕ) (m : TextLocation) (s : All solid a.0.0) where
  -- such a line begins with `#`
  opens : (w : List ℕ) (e : TextLocation) → hot_x a.0.0 t m ≡ ok w e → Next 35 (rest_at t m)
  unfolding Any
  opens w e q =
      let (x, (u, r, d, k, f, o)) = (known-fits 3 a.0.0 (ascii "x_hot") w s).to t m e q in
      let b : Begins (Next 35) (Define (Word (a.0.0 ++ ascii "_x_hot")) (Word w)) Any = define-begins _ _ in
      rw d (b.begins u r k tt)

  hot-bad : (d : ℕ) → ((q : TextLocation) × (further a t m ≡ bad d q)) ↔ ((q : TextLocation) × (hot a t m ≡ bad d q))
  hot-bad d = ((λ (q, x). there q x (is-next 35 (rest_at t m))), λ x. (let (w, e, u, y) = (bad-second (hot_x a.0.0) (left a) d t m (known-quiet 3 d a.0.0 (ascii "_x_hot"))).0 (rw (hot-is a) at x) in (x.0, hashed a t m (opens w e u) ∙ x.1)))
    where
      there : (q : TextLocation) → further a t m ≡ bad d q → Dec (Next 35 (rest_at t m)) → (q : TextLocation) × (hot a t m ≡ bad d q)
      there q x (yes k) = (q, sym (hashed a t m k) ∙ x)
      there q x (no k) = other (unhashed a t m k)
        where
          other : (further a t m ≡ plain a t m) ⊎ ((q : TextLocation) × (further a t m ≡ stop 5 q)) → (q : TextLocation) × (hot a t m ≡ bad d q)
          other (inl u) = absurd (untold (plain-numbered a) t m d q refl (sym u ∙ x))
          other (inr (p, u)) = let z : ◌≡◌ {A = ℕ} 0 1 = cc in absurd (omega arith)

  -- a number before 5
  pub hot-stop : (c : ℕ) → c ≤ 4 → ((q : TextLocation) × (further a t m ≡ stop c q)) ↔ (Next 35 (rest_at t m) × ((q : TextLocation) × (hot a t m ≡ stop c q)))
  hot-stop c l = ((λ (q, x). there q x (is-next 35 (rest_at t m))), λ (k, (q, x)). (q, hashed a t m k ∙ x))
    where
      there : (q : TextLocation) → further a t m ≡ stop c q → Dec (Next 35 (rest_at t m)) → Next 35 (rest_at t m) × ((q : TextLocation) × (hot a t m ≡ stop c q))
      there q x (yes k) = (k, (q, sym (hashed a t m k) ∙ x))
      there q x (no k) = other (unhashed a t m k)
        where
          other : (further a t m ≡ plain a t m) ⊎ ((q : TextLocation) × (further a t m ≡ stop 5 q)) → Next 35 (rest_at t m) × ((q : TextLocation) × (hot a t m ≡ stop c q))
          other (inl u) = absurd (omega (arith, placed-number (plain-numbered a) t m c q (sym u ∙ x)))
          other (inr (p, u)) = let z : c ≡ 5 = cc in absurd (omega arith)

  -- after the `#`
  hot-4 : ((q : TextLocation) × (further a t m ≡ stop 4 q)) ↔ ((q : TextLocation) × (hot a t m ≡ stop 4 q))
  hot-4 = both_ways (hot-stop 4 (omega arith)) ((λ x. x.1), λ x. (let (w, e, u, y) = (stop-second (hot_x a.0.0) (left a) 4 t m (hot-x-numbered a.0.0) (λ a b. omega arith)).0 (rw (hot-is a) at x) in (opens w e u, x)))

abbrev pub after_x : Three → ℤ → Reader Head
after_x a x = line 4 a.0.0 (ascii "_y_hot") (signed 140) >>= λ y. ending a.0.0 a.0.1 a.1 (some (x, y))

left-bad : (a : Three) (w t : List ℕ) (m : TextLocation) (d : ℕ) → four (other d) 140 ≡ true → ((q : TextLocation) × (left a w t m ≡ bad d q)) ↔ ((integer w ≡ none) × (130 + fault_in (parse_i32 w) ≡ d))
left-bad a w t m d h = need-told (integer w) (after_x a) (130 + fault_in (parse_i32 w)) d t m quiet-d
  where
    quiet-d : (x : ℤ) → Quiet d (after_x a x)
    quiet-d x = search quiets depth 40 fits 10000

-- ---- the line for `_y_hot`

-- the header up to the end of the line for `_x_hot`
abbrev pub Four : Type 0
Four = Three × ℤ

unfoldable pub third : ℕ → Reader Four
third limit = second limit >>= λ a. line 3 a.0.0 (ascii "_x_hot") (signed 130) >>= λ x. give (a, x)

abbrev pub Crossed : ℕ → Four → Lang
Crossed limit b = Both limit b.0 · Define (Word (b.0.0.0 ++ ascii "_x_hot")) (Coordinate b.1)

pub third-fits : (limit : ℕ) (b : Four) → Fits (third limit) b (Unit {0}) (Crossed limit b) Any
unfolding third
third-fits limit (a0, x0) =
    fit-drop (fit-bind a0 (λ a. Unit {0}) (Both limit) (λ a. Define (Word (a.0.0 ++ ascii "_x_hot")) (Coordinate x0)) (λ a. All solid a.0.0) (second_fits limit) (both-name limit) begins-any (λ a s.
    fit-drop (fit-last x0 (λ x. Unit {0}) (λ x. Define (Word (a.0.0 ++ ascii "_x_hot")) (Coordinate x)) (λ x. hot-fits 3 130 a.0.0 (ascii "x_hot") x s) (λ x. fit-give (a, x) (there a x, λ e. (ap (λ (r : Four). r.1) e, (ap (λ (r : Four). r.0) e, tt)))))))
  where
    there : (a : Three) (x : ℤ) → (x ≡ x0) × ((a ≡ a0) × Unit {0}) → ◌≡◌ {A = Four} (a, x) (a0, x0)
    there a x (p, (q, u)) = rw (p, q)

pub crossed-name : (limit : ℕ) (b : Four) (w : List ℕ) → Crossed limit b w → All solid b.0.0.0
crossed-name limit b w k = unfold ◌·◌ in (let (u, v, q, x, y) = k in both-name limit b.0 u x)

abbrev pub hot_y : List ℕ → Reader (List ℕ)
hot_y name = known 4 name (ascii "_y_hot")

-- what is made of its token
abbrev pub right : Four → List ℕ → Reader Head
right b w = signed 140 w >>= λ y. ending b.0.0.0 b.0.0.1 b.0.1 (some (b.1, y))

pub after-x-is : (a : Three) (x : ℤ) → after_x a x ≡ (hot_y a.0.0 >>= right (a, x))
after-x-is a x = ap (λ (p : Reader ℤ). p >>= λ y. ending a.0.0 a.0.1 a.1 (some (x, y))) (sym (line-is 4 a.0.0 (ascii "_y_hot") (signed 140))) ∙ assoc (hot_y a.0.0) (signed 140) _

second-hot : (limit : ℕ) → (second limit >>= hot) ≡ (second limit >>= λ a. hot_x a.0.0 >>= left a)
second-hot limit = ap (λ (f : Three → Reader Head). second limit >>= f) (λ i a. hot-is a i)

pub third-hot : (limit : ℕ) → (second limit >>= hot) ≡ (third limit >>= λ b. hot_y b.0.0.0 >>= right b)
unfolding third
third-hot limit = sym (chain _ _ _ (λ a. chain _ _ _ (λ x. given (a, x) (λ b. hot_y b.0.0.0 >>= right b) ∙ sym (after-x-is a x))))

hot-y-numbered : (name : List ℕ) → Numbered 4 4 no_number (hot_y name)
unfolding known raw
hot-y-numbered name = search numbers depth 40 fits 10000

pub right-numbered : (b : Four) (w : List ℕ) → Numbered 5 5 in_header (right b w)
right-numbered b w = search (numbers, array-numbered)

pub third-numbered : (limit : ℕ) → Numbered 1 3 in_header (third limit)
unfolding third second first
third-numbered limit = search (numbers, width-numbered) depth 40 fits 10000

third-quiet : (limit : ℕ) {d : ℕ} → four (other d) 110 ≡ true → eqb 21 d ≡ false → four (other d) 120 ≡ true → eqb 22 d ≡ false → four (other d) 130 ≡ true → Quiet d (third limit)
unfolding third second first
third-quiet limit a b x y z = search (quiets, width-quiet) depth 40 fits 10000

right-bad : (b : Four) (w t : List ℕ) (m : TextLocation) (d : ℕ) → ((q : TextLocation) × (right b w t m ≡ bad d q)) ↔ ((integer w ≡ none) × (140 + fault_in (parse_i32 w) ≡ d))
right-bad b w t m d = need-told (integer w) (λ y. ending b.0.0.0 b.0.0.1 b.0.1 (some (b.1, y))) (140 + fault_in (parse_i32 w)) d t m quiet-d
  where
    quiet-d : (y : ℤ) → Quiet d (ending b.0.0.0 b.0.0.1 b.0.1 (some (b.1, y)))
    quiet-d y = search quiets

-- ---- the rows

-- a mask with these sides, and no hotspot
abbrev pub mask_of : Three → Mask
mask_of a = record { name = a.0.0; width = a.0.1; height = a.1; hot = none; bytes = [] }

abbrev pub three_of : Mask → Three
three_of m = ((m.name, m.width), m.height)

module _ (text name pixels : List ℕ) where
  abbrev lim : ℕ
  lim = length name

  swap-bad : (d : ℕ) → Quiet d (second lim) → ((q : TextLocation) × ((second lim >>= further) text start ≡ bad d q)) ↔ ((q : TextLocation) × ((second lim >>= hot) text start ≡ bad d q))
  swap-bad d n = both_ways (later-bad (second lim) further (Both lim) (second_fits lim) d text start n) (both_ways (
    (λ (a, m, k, x). (a, m, k, (hot-bad lim a text m (both-name lim a k.0 k.3) d).0 x)),
    λ (a, m, k, x). (a, m, k, (hot-bad lim a text m (both-name lim a k.0 k.3) d).1 x),
  ) (let (g, h) = later-bad (second lim) hot (Both lim) (second_fits lim) d text start n in (h, g)))

  swap-4 : ((q : TextLocation) × ((second lim >>= further) text start ≡ stop 4 q)) ↔ ((q : TextLocation) × ((second lim >>= hot) text start ≡ stop 4 q))
  swap-4 = both_ways (later-stop (second lim) further (Both lim) (second_fits lim) 4 text start (second-numbered lim) (λ a b. omega arith)) (both_ways (
    (λ (a, m, k, x). (a, m, k, (hot-4 lim a text m (both-name lim a k.0 k.3)).0 x)),
    λ (a, m, k, x). (a, m, k, (hot-4 lim a text m (both-name lim a k.0 k.3)).1 x),
  ) (let (g, h) = later-stop (second lim) hot (Both lim) (second_fits lim) 4 text start (second-numbered lim) (λ a b. omega arith) in (h, g)))

  abbrev LineX : Three → List ℕ → Lang
  LineX a w = Define (Word (a.0.0 ++ ascii "_x_hot")) (Word w)

  abbrev LineY : Four → List ℕ → Lang
  LineY b w = Define (Word (b.0.0.0 ++ ascii "_y_hot")) (Word w)

  told-x : (d : ℕ) (Q : Lang) → (d ≡ 31 → ⊥) → Quiet d (second lim) → ((a : Three) (w : List ℕ) (m : TextLocation) → ((q : TextLocation) × (left a w text m ≡ bad d q)) ↔ Q w)
      → ((reading text name pixels).answer ≡ unplaced d) ↔ BadX lim Q text
  told-x d Q o n k = both_ways (told-bad text name pixels d o) (rw (header-second lim) (both_ways (swap-bad d n) (rw (second-hot lim) (both_ways (after-bad (second lim) (λ a. hot_x a.0.0) left (Both lim) (λ a. All solid a.0.0) Token LineX (second_fits lim) (both-name lim) (λ a s w. known-fits 3 a.0.0 (ascii "x_hot") w s) 3 (λ a. hot-x-numbered a.0.0) text start d Q n (λ a. known-quiet 3 d a.0.0 (ascii "_x_hot")) k) (
    (λ (a, w, e, x, l, y). (mask_of a, w, (begun (Both lim a · LineX a w) text).0 (e, l), x, y)),
    λ (m, w, b, x, y). (let (e, l) = (begun (Both lim (three_of m) · LineX (three_of m) w) text).1 b in (three_of m, w, e, x, l, y)),
  )))))

  pub row-x : (f : Fault) → ((reading text name pixels).answer ≡ unplaced (130 + fault_number f)) ↔ BadX lim (SaysSigned (Err f)) text
  row-x Empty = told-x 131 (SaysSigned (Err Empty)) (λ q. omega arith) (second-quiet lim refl refl refl refl) (λ a w m. both_ways (left-bad a w text m 131 refl) (coordinate-fault 130 Empty w))
  row-x LeadingZero = told-x 132 (SaysSigned (Err LeadingZero)) (λ q. omega arith) (second-quiet lim refl refl refl refl) (λ a w m. both_ways (left-bad a w text m 132 refl) (coordinate-fault 130 LeadingZero w))
  row-x NotDigit = told-x 133 (SaysSigned (Err NotDigit)) (λ q. omega arith) (second-quiet lim refl refl refl refl) (λ a w m. both_ways (left-bad a w text m 133 refl) (coordinate-fault 130 NotDigit w))
  row-x OutOfRange = told-x 134 (SaysSigned (Err OutOfRange)) (λ q. omega arith) (second-quiet lim refl refl refl refl) (λ a w m. both_ways (left-bad a w text m 134 refl) (coordinate-fault 130 OutOfRange w))

  pub row-4 : Placed (reading text name pixels).answer 4 ↔ NoYLine lim text
  row-4 = both_ways (told-stop text name pixels 4 (omega arith)) (rw (header-second lim) (both_ways swap-4 (rw (third-hot lim) (both_ways (after_stop (third lim) (λ b. hot_y b.0.0.0) right (Crossed lim) (λ b. All solid b.0.0.0) Token LineY (third-fits lim) (crossed-name lim) (λ b s w. known-fits 4 b.0.0.0 (ascii "y_hot") w s) 4 (λ b. hot-y-numbered b.0.0.0) text start (third-numbered lim) (λ a b. omega arith) right-numbered (λ a b. omega arith)) (
    (λ (b, k, g). (mask_of b.0, b.1, (begun (Crossed lim b) text).0 k, λ d. (let (v, x, c) = begun-out (Crossed lim b) (Word (b.0.0.0 ++ ascii "_y_hot")) Token text d in let (e, l) = (begun (Crossed lim b · LineY b v) text).1 c in g v e x l))),
    λ (m, x, d, g). ((three_of m, x), (begun (Crossed lim (three_of m, x)) text).1 d, λ v e y l. g (begun-in (Crossed lim (three_of m, x)) (Word (m.name ++ ascii "_y_hot")) Token v text ((begun (Crossed lim (three_of m, x) · LineY (three_of m, x) v) text).0 (e, l)) y)),
  )))))

  told-y : (d : ℕ) (Q : Lang) → (d ≡ 31 → ⊥) → Quiet d (second lim) → Quiet d (third lim) → ((b : Four) (w : List ℕ) (m : TextLocation) → ((q : TextLocation) × (right b w text m ≡ bad d q)) ↔ Q w)
      → ((reading text name pixels).answer ≡ unplaced d) ↔ BadY lim Q text
  told-y d Q o n n' k = both_ways (told-bad text name pixels d o) (rw (header-second lim) (both_ways (swap-bad d n) (rw (third-hot lim) (both_ways (after-bad (third lim) (λ b. hot_y b.0.0.0) right (Crossed lim) (λ b. All solid b.0.0.0) Token LineY (third-fits lim) (crossed-name lim) (λ b s w. known-fits 4 b.0.0.0 (ascii "y_hot") w s) 4 (λ b. hot-y-numbered b.0.0.0) text start d Q n' (λ b. known-quiet 4 d b.0.0.0 (ascii "_y_hot")) k) (
    (λ (b, w, e, x, l, y). (mask_of b.0, b.1, w, (begun (Crossed lim b · LineY b w) text).0 (e, l), x, y)),
    λ (m, x, w, d, z, y). (let (e, l) = (begun (Crossed lim (three_of m, x) · LineY (three_of m, x) w) text).1 d in ((three_of m, x), w, e, z, l, y)),
  )))))

  pub row-y : (f : Fault) → ((reading text name pixels).answer ≡ unplaced (140 + fault_number f)) ↔ BadY lim (SaysSigned (Err f)) text
  row-y Empty = told-y 141 (SaysSigned (Err Empty)) (λ q. omega arith) (second-quiet lim refl refl refl refl) (third-quiet lim refl refl refl refl refl) (λ b w m. both_ways (right-bad b w text m 141) (coordinate-fault 140 Empty w))
  row-y LeadingZero = told-y 142 (SaysSigned (Err LeadingZero)) (λ q. omega arith) (second-quiet lim refl refl refl refl) (third-quiet lim refl refl refl refl refl) (λ b w m. both_ways (right-bad b w text m 142) (coordinate-fault 140 LeadingZero w))
  row-y NotDigit = told-y 143 (SaysSigned (Err NotDigit)) (λ q. omega arith) (second-quiet lim refl refl refl refl) (third-quiet lim refl refl refl refl refl) (λ b w m. both_ways (right-bad b w text m 143) (coordinate-fault 140 NotDigit w))
  row-y OutOfRange = told-y 144 (SaysSigned (Err OutOfRange)) (λ q. omega arith) (second-quiet lim refl refl refl refl) (third-quiet lim refl refl refl refl refl) (λ b w m. both_ways (right-bad b w text m 144) (coordinate-fault 140 OutOfRange w))

  -- a `#` stands after the height line
  pub hash : (a : Three) (m : TextLocation) → At (Both lim a) Any text start m → Next 35 (rest_at text m) ↔ Begun (Both lim a · Lit "#") text
  unfolding Next Word Any
  hash a m k = (
    (λ n. (begun (Both lim a · Lit "#") text).0 (there (rest_at text m) refl n)),
    λ b. (let (e, l) = (begun (Both lim a · Lit "#") text).1 b in let (j, u, (v, r, d, w, f, o)) = at-parts (Both lim a) (Lit "#") text start e l in let z : rest_at text m ≡ 35 ∷ r = ap (rest_at text) (one_end (second_fits lim a) text start m j k u) ∙ d ∙ ap (λ (x : List ℕ). x ++ r) w in rw z refl),
  )
    where
      there : (l : List ℕ) → rest_at text m ≡ l → Next 35 l → (e : TextLocation) × At (Both lim a · Lit "#") Any text start e
      there [] q n = absurd n
      there (x ∷ l) q n = (past m (35 ∷ []), at_both (Both lim a) (Lit "#") text start m (past m (35 ∷ [])) k (35 ∷ [], l, q ∙ ap (λ (y : ℕ). y ∷ l) n, refl, tt, refl))

  pub row-3 : Placed (reading text name pixels).answer 3 ↔ NoXLine lim text
  row-3 = both_ways (told-stop text name pixels 3 (omega arith)) (rw (header-second lim) (both_ways (later-stop (second lim) further (Both lim) (second_fits lim) 3 text start (second-numbered lim) (λ a b. omega arith)) (
    (λ (a, m, k, x). (let (n, y) = (hot-stop lim a text m (both-name lim a k.0 k.3) 3 (omega arith)).0 x in (mask_of a, (hash a m k).0 n, (lines a m k).0 y))),
    λ (m, b, g). (let (e, l) = (begun (Both lim (three_of m) · Lit "#") text).1 b in let (j, u, v) = at-parts (Both lim (three_of m)) (Lit "#") text start e l in (three_of m, j, u, (hot-stop lim (three_of m) text j (both-name lim (three_of m) u.0 u.3) 3 (omega arith)).1 ((hash (three_of m) j u).1 b, (lines (three_of m) j u).1 g))),
  )))
    where
      lines : (a : Three) (m : TextLocation) → At (Both lim a) Any text start m → ((q : TextLocation) × (hot a text m ≡ stop 3 q)) ↔ No (Both lim a · Define (Word (a.0.0 ++ ascii "_x_hot")) Token) text
      lines a m k = rw (hot-is a) (both_ways (stage-stop (hot_x a.0.0) (left a) Token (LineX a) (λ w. known-fits 3 a.0.0 (ascii "x_hot") w (both-name lim a k.0 k.3)) 3 (hot-x-numbered a.0.0) text m (left-numbered a) (λ a b. omega arith)) (both_ways (none_after (second lim) (λ a. hot_x a.0.0) left (Both lim) (λ a. All solid a.0.0) Token LineX (second_fits lim) (both-name lim) (λ a s w. known-fits 3 a.0.0 (ascii "x_hot") w s) 3 (λ a. hot-x-numbered a.0.0) text start a m k) (
        (λ g b. (let (v, x, d) = begun-out (Both lim a) (Word (a.0.0 ++ ascii "_x_hot")) Token text b in let (e, l) = (begun (Both lim a · LineX a v) text).1 d in g v e x l)),
        λ g v e x l. g (begun-in (Both lim a) (Word (a.0.0 ++ ascii "_x_hot")) Token v text ((begun (Both lim a · LineX a v) text).0 (e, l)) x),
      )))
