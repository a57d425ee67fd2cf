-- The refusal of the array line, two-sided: 5.
use Rattle.std.specs.Prelude.{◌≡◌, refl, ◌↔◌, ◌⊎◌, ℕ, List, [], ◌++◌, length, ℤ}
use Rattle.std.proofs.Common.{sym, ◌∙◌, arith}
use Rattle.std.proofs.Math.Path.{ap}
use Rattle.std.proofs.Math.Logic.{inl, inr}
use Rattle.std.proofs.Math.Option.{Option, some}
use Rattle.text.specs.declared.TextLocation.{TextLocation}
use Rattle.text.specs.Ascii.{ascii}
use Rattle.text.specs.Place.{start, rest as rest_at}
use Rattle.text.specs.Reader.{Result, ok, stop, bad, then, Reader, ◌>>=◌}
use Rattle.text.specs.Leaf.{give}
use Rattle.lines.specs.Lines.{line, signed, array_line}
use Rattle.header.specs.Header.{Head, ending, header}
use Rattle.image.specs.Reading.{reading}
use Rattle.grammar.specs.Lang.{Lang, Word, ◌·◌, All}
use Rattle.grammar.specs.Grammar.{Mask, solid, Coordinate, Define, Header}
use Rattle.grammar.proofs.Bind.{bind_ok}
use Rattle.grammar.specs.Devices.{head_of}
use Rattle.grammar.proofs.Fits.{Any, Next, At, Fits, Begins, fit-drop, fit-bind, fit-last, fit-give}
use Rattle.grammar.proofs.Pieces.{begins-any}
use Rattle.grammar.proofs.Lines.{hot-fits}
use Rattle.grammar.proofs.Headers.{header-exactly}
use Rattle.claims.specs.Terms.{Begun}
use Rattle.claims.proofs.Numbers.{no_number, in_header, Numbered, numbers, width-numbered, array-numbered, placed-number, untold}
use Rattle.refusals.specs.Terms.{NoArrayLine, Placed, No}
use Rattle.refusals.proofs.Stages.{both_ways, given, chain, at-parts, read_at, later-stop, begun}
use Rattle.refusals.proofs.Lines.{define-begins}
use Rattle.refusals.proofs.HeaderRows.{told-stop, first}
use Rattle.refusals.proofs.HotspotRows.{Three, second, Both, second_fits, further, header-second, hot, plain, is-next, hashed, unhashed, second-numbered, after_x, Four, third, Crossed, third-fits, crossed-name, hash, mask_of, three_of}

-- the header up to the end of the hotspot's lines
abbrev pub Five : Type 0
Five = Four × ℤ

unfoldable pub fourth : ℕ → Reader Five
fourth limit = third limit >>= λ b. line 4 b.0.0.0 (ascii "_y_hot") (signed 140) >>= λ y. give (b, y)

abbrev pub Spotted : ℕ → Five → Lang
Spotted limit c = Crossed limit c.0 · Define (Word (c.0.0.0.0 ++ ascii "_y_hot")) (Coordinate c.1)

pub fourth-fits : (limit : ℕ) (c : Five) → Fits (fourth limit) c (Unit {0}) (Spotted limit c) Any
unfolding fourth
fourth-fits limit (b0, y0) =
    fit-drop (fit-bind b0 (λ b. Unit {0}) (Crossed limit) (λ b. Define (Word (b.0.0.0 ++ ascii "_y_hot")) (Coordinate y0)) (λ b. All solid b.0.0.0) (third-fits limit) (crossed-name limit) begins-any (λ b s.
    fit-drop (fit-last y0 (λ y. Unit {0}) (λ y. Define (Word (b.0.0.0 ++ ascii "_y_hot")) (Coordinate y)) (λ y. hot-fits 4 140 b.0.0.0 (ascii "y_hot") y s) (λ y. fit-give (b, y) (there b y, λ e. (ap (λ (r : Five). r.1) e, (ap (λ (r : Five). r.0) e, tt)))))))
  where
    there : (b : Four) (y : ℤ) → (y ≡ y0) × ((b ≡ b0) × Unit {0}) → ◌≡◌ {A = Five} (b, y) (b0, y0)
    there b y (p, (q, u)) = rw (p, q)

-- the array line after them
abbrev pub done : Five → Reader Head
done c = ending c.0.0.0.0 c.0.0.0.1 c.0.0.1 (some (c.0.1, c.1))

pub fourth-hot : (limit : ℕ) → (second limit >>= hot) ≡ (fourth limit >>= done)
unfolding third fourth
fourth-hot limit = sym (chain _ _ (λ b. after_x b.0 b.1) (λ a. chain _ _ _ (λ x. given (a, x) (λ b. after_x b.0 b.1)))) ∙ sym (chain (third limit) _ done (λ b. chain _ _ done (λ y. given (b, y) done)))

pub fourth-numbered : (limit : ℕ) → Numbered 1 4 in_header (fourth limit)
unfolding fourth third second first
fourth-numbered limit = search (numbers, width-numbered) depth 40 fits 10000

array-5 : (name : List ℕ) → Numbered 5 5 no_number (array_line 5 name)
array-5 name = array-numbered name refl

-- the array line is there, or the refusal is 5
ending-case : (name : List ℕ) (w h : ℕ) (o : Option (ℤ × ℤ)) (t : List ℕ) (i : TextLocation) → ((e : TextLocation) × (ending name w h o t i ≡ ok (record { name = name; width = w; height = h; hot = o }) e)) ⊎ ((q : TextLocation) × (ending name w h o t i ≡ stop 5 q))
unfolding ◌>>=◌ give
ending-case name w h o t i = go (array_line 5 name t i) refl
  where
    head : Head
    head = record { name = name; width = w; height = h; hot = o }

    go : (r : Result (Unit {0})) → array_line 5 name t i ≡ r → ((e : TextLocation) × (then r (λ a e. ok head e) ≡ ok head e)) ⊎ ((q : TextLocation) × (then r (λ a e. ok head e) ≡ stop 5 q))
    go (ok a e) q = inl (e, refl)
    go (stop c e) q = let z : c ≡ 5 = omega (arith, placed-number (array-5 name) t i c e q) in inr (e, ap (λ (k : ℕ). stop k e) z)
    go (bad c e) q = absurd (untold (array-5 name) t i c e refl q)

module _ (text name pixels : List ℕ) where
  abbrev lim : ℕ
  lim = length name

  abbrev Read5 : Type 0
  Read5 = (q : TextLocation) × (header lim text start ≡ stop 5 q)

  stood : (m : Mask) → Begun (Header lim m) text → (e : TextLocation) × (header lim text start ≡ ok (head_of m) e)
  stood m b = let (e, l) = (begun (Header lim m) text).1 b in (e, (header-exactly lim m text start e).1 l)

  stands : (m : Mask) (e : TextLocation) → header lim text start ≡ ok (head_of m) e → Begun (Header lim m) text
  stands m e q = (begun (Header lim m) text).0 (e, (header-exactly lim m text start e).0 q)

  -- a reader that ends with the array line
  either : (m : Mask) → No (Header lim m) text → (i : TextLocation) → header lim text start ≡ ending m.name m.width m.height m.hot text i → Read5
  either m g i q = go (ending-case m.name m.width m.height m.hot text i)
    where
      go : ((e : TextLocation) × (ending m.name m.width m.height m.hot text i ≡ ok (head_of m) e)) ⊎ ((p : TextLocation) × (ending m.name m.width m.height m.hot text i ≡ stop 5 p)) → Read5
      go (inl (e, u)) = absurd (g (stands m e (q ∙ u)))
      go (inr (p, u)) = (p, q ∙ u)

  -- after the sides, with the `#` or without
  after-sides : (a : Three) (i : TextLocation) → At (Both lim a) Any text start i → header lim text start ≡ further a text i
  after-sides a i k = ap (λ (r : Reader Head). r text start) (header-second lim) ∙ bind_ok (second lim) further text start a i ((read_at (second_fits lim a) text start i).1 (tt, k))

  after-spot : (a : Three) (i : TextLocation) → At (Both lim a) Any text start i → Next 35 (rest_at text i) → header lim text start ≡ (fourth lim >>= done) text start
  after-spot a i k n = after-sides a i k ∙ hashed a text i n ∙ sym (bind_ok (second lim) hot text start a i ((read_at (second_fits lim a) text start i).1 (tt, k))) ∙ ap (λ (r : Reader Head). r text start) (fourth-hot lim)

  no_header : Read5 → (m : Mask) → No (Header lim m) text
  no_header (q, x) m b = let (e, u) = stood m b in let z : ◌≡◌ {A = ℕ} 0 1 = cc in omega arith

  -- a mask with this hotspot
  abbrev spotted : Five → Mask
  spotted c = record { name = c.0.0.0.0; width = c.0.0.0.1; height = c.0.0.1; hot = some (c.0.1, c.1); bytes = [] }

  why : Read5 → NoArrayLine lim text
  why r = let (a, i, k, x) = (later-stop (second lim) further (Both lim) (second_fits lim) 5 text start (second-numbered lim) (λ a b. omega arith)).0 (rw (header-second lim) at r) in go a i k (is-next 35 (rest_at text i))
    where
      go : (a : Three) (i : TextLocation) → At (Both lim a) Any text start i → Dec (Next 35 (rest_at text i)) → NoArrayLine lim text
      go a i k (no n) = (mask_of a, no_header r (mask_of a), inl (refl, (begun (Both lim a) text).0 (i, k), λ b. n ((hash text name pixels a i k).1 b)))
      go a i k (yes n) =
          let (c, e, l, x) = (later-stop (fourth lim) done (Spotted lim) (fourth-fits lim) 5 text start (fourth-numbered lim) (λ a b. omega arith)).0 (r.0, sym (after-spot a i k n) ∙ r.1) in
          (spotted c, no_header r (spotted c), inr (c.0.1, c.1, refl, (begun (Spotted lim c) text).0 (e, l)))

  so : NoArrayLine lim text → Read5
  unfolding Any
  so (m, g, inl (h, b, n)) = let (i, k) = (begun (Both lim (three_of m)) text).1 b in other i k (unhashed (three_of m) text i (λ x. n ((hash text name pixels (three_of m) i k).0 x)))
    where
      other : (i : TextLocation) → At (Both lim (three_of m)) Any text start i → (further (three_of m) text i ≡ plain (three_of m) text i) ⊎ ((q : TextLocation) × (further (three_of m) text i ≡ stop 5 q)) → Read5
      other i k (inl u) = either m g i (after-sides (three_of m) i k ∙ u ∙ ap (λ (o : Option (ℤ × ℤ)). ending m.name m.width m.height o text i) (sym h))
      other i k (inr (q, u)) = (q, after-sides (three_of m) i k ∙ u)
  so (m, g, inr (x, y, h, b)) =
      let c : Five = ((three_of m, x), y) in
      let (e, l) = (begun (Spotted lim c) text).1 b in
      let (j, u, v) = at-parts (Crossed lim c.0) _ text start e l in
      let (i, k, (w, r, d, z, f, o)) = at-parts (Both lim (three_of m)) (Define (Word (m.name ++ ascii "_x_hot")) (Coordinate x)) text start j u in
      let s : Begins (Next 35) (Define (Word (m.name ++ ascii "_x_hot")) (Coordinate x)) Any = define-begins _ _ in
      either m g e (after-spot (three_of m) i k (rw d (s.begins w r z tt)) ∙ bind_ok (fourth lim) done text start c e ((read_at (fourth-fits lim c) text start e).1 (tt, l)) ∙ ap (λ (o : Option (ℤ × ℤ)). ending m.name m.width m.height o text e) (sym h))

  pub row-5 : Placed (reading text name pixels).answer 5 ↔ NoArrayLine lim text
  row-5 = both_ways (told-stop text name pixels 5 (omega arith)) (why, so)
