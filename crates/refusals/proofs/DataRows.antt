-- The refusals of the data bytes and of the trailer, two-sided: 6, 7 and 8.
use Rattle.std.specs.Prelude.{◌≡◌, ◌↔◌, Bool, length, eqb}
use Rattle.std.proofs.Math.Path.{refl, sym, ap}
use Rattle.std.proofs.Common.{◌∙◌, mul-le-mul_left, length-append, le-ltb}
use Prim.Native.Nat.{ℕ, zero, suc, ◌*◌, ◌/◌, ◌≤◌, ◌<◌, min}
use native.Mathlib.Omega.{arith}
use Rattle.std.proofs.Math.Decide.{dec_lt}
use Rattle.std.proofs.Math.Bool.{true, false}
use mathlib.Core.List.{List, [], ◌∷◌, ◌++◌, append_assoc}
use Rattle.text.specs.declared.TextLocation.{TextLocation}
use Rattle.text.specs.Place.{start}
use Rattle.text.specs.Reader.{Result, ok, stop, bad, Reader, ◌>>=◌}
use Rattle.text.specs.Leaf.{give}
use Rattle.text.specs.Outcome.{refused, outcome}
use Rattle.header.specs.Header.{Head, header}
use Rattle.body.specs.Data.{item, items, row_bytes}
use Rattle.rows.specs.Rows.{mismatch, ending, whole}
use Rattle.image.specs.Reading.{picture, reading}
use Rattle.grammar.specs.Lang.{◌·◌}
use Rattle.grammar.specs.Grammar.{Mask, Header, Data, Format}
use Rattle.grammar.proofs.Bind.{bind-case, bind_ok}
use Rattle.grammar.specs.Devices.{head_of, made}
use Rattle.grammar.proofs.Headers.{header-exactly}
use Rattle.grammar.proofs.Exact.{data-fits}
use Rattle.claims.specs.Terms.{Begun, W, rows}
use Rattle.claims.proofs.Numbers.{no_number, only_31, Numbered, numbers, bind-numbered, give-numbered, header-numbered, item-numbered, items-numbered, trailer-numbered}
use Rattle.claims.proofs.SymbolCut.{lead}
use Rattle.claims.proofs.Mismatch.{apart, joined, zero_test, whole-few}
use Rattle.refusals.proofs.Ends.{Whole, seven, eight, whole_of}
use Rattle.refusals.specs.Terms.{NoDataByte, NoClosing, MoreBehind, No, Placed}
use Rattle.refusals.proofs.Stages.{both_ways, assoc, stop-first, stop-second, alone, at_both, at-parts, read_at, begun}

-- ---- the trailer

three : {t u b : List ℕ} (r a c d : List ℕ) → t ≡ u ++ r → u ≡ a ++ b → b ≡ c ++ d → t ≡ (a ++ c) ++ (d ++ r)
three r a c d q o s = rw (q, o, s) (simp append_assoc)

three2 : {t u b : List ℕ} (r a c d : List ℕ) → t ≡ a ++ u → u ≡ b ++ r → b ≡ c ++ d → t ≡ (a ++ c) ++ (d ++ r)
three2 r a c d q o s = rw (q, o, s) (simp append_assoc)

module _ (text name pixels : List ℕ) where
  abbrev lim : ℕ
  lim = length name

  -- header and data stand there, and then r
  abbrev stand : (m : Mask) → m.height ≤ rows m pixels → length m.bytes ≡ W m * m.height → (u r : List ℕ) → text ≡ u ++ r → (Header lim m · Data m.bytes) u → Whole lim text pixels u m
  stand m l e u r q k = record { bytes = e; enough = l; stands = k; rest = r; split = q }

  pub row-7 : Placed (reading text name pixels).answer 7 ↔ NoClosing lim text pixels
  unfolding ◌·◌
  row-7 = (
    (λ (p, x). (let (m, u, w) = whole_of text name pixels 7 p x (omega arith) in (
      m,
      w.enough,
      w.bytes,
      (u, w.rest, w.split, w.stands),
      λ (z, r, q, (a, b, o, h, (c, d, s, k, g))).
          (seven text name pixels m (a ++ c) (stand m w.enough w.bytes (a ++ c) (d ++ r) (three r a c d q o s) (a, c, refl, h, k))).0 (p, x) (d, r, refl, g),
    ))),
    λ (m, l, e, (u, r, q, k), g). (seven text name pixels m u (stand m l e u r q k)).1 (λ (c, v, s, z). (let (a, b, o, h, d) = k in g (u ++ c, v, q ∙ ap (λ (x : List ℕ). u ++ x) s ∙ sym (append_assoc u c v), (a, b ++ c, ap (λ (y : List ℕ). y ++ c) o ∙ append_assoc a b c, h, (b, c, refl, d, z))))),
  )

  pub row-8 : Placed (reading text name pixels).answer 8 ↔ MoreBehind lim text pixels
  unfolding ◌·◌ Format
  row-8 = (
    (λ (p, x). (let (m, u, w) = whole_of text name pixels 8 p x (omega arith) in let ((c, v, s, k), g) = (eight text name pixels m u w).0 (p, x) in let (a, b, o, h, d) = w.stands in (
      m,
      w.enough,
      w.bytes,
      (u ++ c, v, w.split ∙ ap (λ (y : List ℕ). u ++ y) s ∙ sym (append_assoc u c v), (a, b ++ c, ap (λ (y : List ℕ). y ++ c) o ∙ append_assoc a b c, h, (b, c, refl, d, k))),
      λ ((a1, b1, q1, h1, (c1, l1, q2, (d1, e1, q3, k1, z1), y1)), n).
          ((eight text name pixels m (a1 ++ d1) (stand m w.enough w.bytes (a1 ++ d1) (e1 ++ l1) (three2 l1 a1 d1 e1 q1 q2 q3) (a1, d1, refl, h1, k1))).0 (p, x)).1 e1 l1 refl z1 y1,
    ))),
    λ (m, l, e, (u, r, q, (a, b, o, h, (c, d, s, k, z))), g).
        (eight text name pixels m (a ++ c) (stand m l e (a ++ c) (d ++ r) (three r a c d q o s) (a, c, refl, h, k))).1 ((d, r, refl, z), λ f v t y x. g ((a, (c ++ f) ++ v, three r a c d q o s ∙ append_assoc a c (d ++ r) ∙ ap (λ (j : List ℕ). a ++ (c ++ j)) t ∙ ap (λ (j : List ℕ). a ++ j) (sym (append_assoc c f v)), h, (c ++ f, v, refl, (c, f, refl, k, y), x)), e)),
  )

-- ---- the data bytes

module _ (t : List ℕ) (i : TextLocation) where
  -- so many are read
  abbrev Runs : ℕ → Type 0
  Runs k = (l : List ℕ) × (e : TextLocation) × (items k true t i ≡ ok l e)

  one_less : (k : ℕ) → Runs (suc k) → Runs k
  one_less k (l, e, q) = let (r, n, b, p, s) = apart k true (eqb k 0) t i l e (zero_test k).0 (zero_test k).1 q in (r, n, p)

  less : (n k : ℕ) → k ≤ n → Runs n → Runs k
  less zero k h r = let z : 0 ≡ k = omega arith in rw z at r
  less (suc n) k h r = go (dec_lt k (suc n)) (λ l. less n k l (one_less n r))
    where
      go : Dec (k < suc n) → (k ≤ n → Runs k) → Runs k
      go (yes l) f = f (omega arith)
      go (no l) f = let z : suc n ≡ k = omega arith in rw z at r

  -- where not all are, the first that are, and no more
  abbrev Found : ℕ → Type 0
  Found n = (l : List ℕ) × (e : TextLocation) × (length l < n) × (items (length l) true t i ≡ ok l e) × (Runs (suc (length l)) → ⊥)

  find : (n : ℕ) → (Runs n → ⊥) → Found n
  unfolding items give
  find zero g = absurd (g ([], i, refl))
  find (suc n) g = go (λ f. find n f) (items n true t i) refl
    where
      fail : Found n → Found (suc n)
      fail (l, e, k, u, v) = (l, e, omega arith, u, v)

      go : ((Runs n → ⊥) → Found n) → (r : Result (List ℕ)) → items n true t i ≡ r → Found (suc n)
      go f (ok l e) q = let z : n ≡ length l = sym ((data-fits n l).to t i e q).0 in (l, e, omega arith, rw z at q, λ r. g (rw (← z) at r))
      go f (stop c e) q = fail (f (λ (l, j, u). (let z : ◌≡◌ {A = ℕ} 0 1 = cc in omega arith)))
      go f (bad c e) q = fail (f (λ (l, j, u). (let z : ◌≡◌ {A = ℕ} 0 1 = cc in omega arith)))

  module _ (w h n : ℕ) where
    abbrev few : ℕ
    few = row_bytes w * (n / w)

    next_one : Reader ℕ
    next_one = items few true >>= λ l. item (eqb few 0)

    next-numbered : Numbered 6 6 no_number next_one
    unfolding next_one
    next-numbered = bind-numbered (items-numbered few true refl) (λ l. item-numbered (eqb few 0) refl)

    none-numbered : (b : ℕ) → Numbered 1 0 only_31 mismatch
    none-numbered b = search numbers

    -- 6 into too few rows: not one more than theirs
    whole-6-few : n / w < h → ((q : TextLocation) × (whole w h n t i ≡ stop 6 q)) ↔ (Runs (suc few) → ⊥)
    unfolding next_one
    whole-6-few r = rw (whole-few w h n t i r, ← assoc (items few true) (λ l. item (eqb few 0)) (λ b. mismatch)) (
      (λ (q, x) (l, e, u). (let (k, j, b, p, s) = apart few true (eqb few 0) t i l e (zero_test few).0 (zero_test few).1 u in (alone 6 t i next-numbered).0 (q, (stop-first next_one (λ b. mismatch) 6 t i none-numbered (λ a b. omega arith) q).0 x) b e (bind_ok (items few true) (λ l. item (eqb few 0)) t i k j p ∙ s))),
      λ g. (let (q, x) = (alone 6 t i next-numbered).1 (λ b e u. bind-case (items few true) (λ l. item (eqb few 0)) t i u (λ k j p s. g (k ++ b ∷ [], e, joined few true (eqb few 0) t i k j b e (zero_test few).0 (zero_test few).1 p s))) in (q, (stop-first next_one (λ b. mismatch) 6 t i none-numbered (λ a b. omega arith) q).1 x)),
    )

    ending-numbered : (s f : Bool) (l : List ℕ) → Numbered 7 8 only_31 (ending s false f l)
    ending-numbered true f l = search (numbers, trailer-numbered)
    ending-numbered false f l = search (numbers, trailer-numbered)

    -- else: not all of the picture's
    whole-6-all : h ≤ n / w → ((q : TextLocation) × (whole w h n t i ≡ stop 6 q)) ↔ (Runs (row_bytes w * h) → ⊥)
    unfolding whole
    whole-6-all l =
        let z : min (n / w) h ≡ h = omega arith in
        rw (le-ltb (n / w) h l, z) (
          (λ (q, x) (k, e, u). (alone 6 t i (items-numbered (row_bytes w * h) true refl)).0 (q, (stop-first (items (row_bytes w * h) true) (ending (eqb (n / w) h) false (eqb (row_bytes w * h) 0)) 6 t i (ending-numbered (eqb (n / w) h) (eqb (row_bytes w * h) 0)) (λ a b. omega arith) q).0 x) k e u),
          λ g. (let (q, x) = (alone 6 t i (items-numbered (row_bytes w * h) true refl)).1 (λ k e u. g (k, e, u)) in (q, (stop-first (items (row_bytes w * h) true) (ending (eqb (n / w) h) false (eqb (row_bytes w * h) 0)) 6 t i (ending-numbered (eqb (n / w) h) (eqb (row_bytes w * h) 0)) (λ a b. omega arith) q).1 x)),
        )

module _ (text name pixels : List ℕ) where
  abbrev limit : ℕ
  limit = length name

  told-6 : Placed (reading text name pixels).answer 6 ↔ ((h : Head) × (e : TextLocation) × (header limit text start ≡ ok h e) × ((q : TextLocation) × (whole h.width h.height (length pixels) text e ≡ stop 6 q)))
  unfolding reading picture
  told-6 = both_ways (go (picture limit (length pixels) text start)) (both_ways (stop-second (header limit) rest 6 text start (header-numbered limit) (λ a b. omega arith)) (
    (λ (h, e, u, (q, x)). (h, e, u, (q, (stop-first (whole h.width h.height (length pixels)) (λ l. give (h, l)) 6 text e (λ l. give-numbered {lo = 1} {hi = 0} {bare = no_number} (h, l)) (λ a b. omega arith) q).0 x))),
    λ (h, e, u, (q, x)). (h, e, u, (q, (stop-first (whole h.width h.height (length pixels)) (λ l. give (h, l)) 6 text e (λ l. give-numbered {lo = 1} {hi = 0} {bare = no_number} (h, l)) (λ a b. omega arith) q).1 x)),
  ))
    where
      rest : Head → Reader (Head × List ℕ)
      rest h = whole h.width h.height (length pixels) >>= λ l. give (h, l)

      go : (r : Result (Head × List ℕ)) → ((p : TextLocation) × (outcome (λ (p : Head × List ℕ). p.0) r ≡ refused 6 p)) ↔ ((q : TextLocation) × (r ≡ stop 6 q))
      go (ok a e) = ((λ (p, x). (let z : ◌≡◌ {A = ℕ} 0 1 = cc in absurd (omega arith))), λ (q, x). (let z : ◌≡◌ {A = ℕ} 0 1 = cc in absurd (omega arith)))
      go (stop d e) = ((λ (p, x). (p, cc)), λ (q, x). (q, cc))
      go (bad d e) = ((λ (p, x). (let z : ◌≡◌ {A = ℕ} 0 1 = cc in absurd (omega arith))), λ (q, x). (let z : ◌≡◌ {A = ℕ} 0 1 = cc in absurd (omega arith)))

  -- header and data bytes stand there exactly if they are read
  both_at : (m : Mask) (e f : TextLocation) → header limit text start ≡ ok (head_of m) e → items (length m.bytes) true text e ≡ ok m.bytes f → Begun (Header limit m · Data m.bytes) text
  both_at m e f u v = (begun (Header limit m · Data m.bytes) text).0 (f, at_both (Header limit m) (Data m.bytes) text start e f ((header-exactly limit m text start e).0 u) ((data-fits (length m.bytes) m.bytes).to text e f v).1)

  both_read : (m : Mask) (l : List ℕ) → Begun (Header limit m · Data l) text → (e : TextLocation) × (f : TextLocation) × (header limit text start ≡ ok (head_of m) e) × (items (length l) true text e ≡ ok l f)
  both_read m l b = let (f, a) = (begun (Header limit m · Data l) text).1 b in let (e, u, v) = at-parts (Header limit m) (Data l) text start f a in (e, f, (header-exactly limit m text start e).1 u, (read_at (data-fits (length l) l) text e f).1 (refl, v))

  abbrev More : Mask → Type 0
  More m = (b : ℕ) → No (Header limit m · Data (m.bytes ++ (b ∷ []))) text

  -- no more of them, in both words
  no_more : (m : Mask) (e f : TextLocation) → header limit text start ≡ ok (head_of m) e → items (length m.bytes) true text e ≡ ok m.bytes f → (Runs text e (suc (length m.bytes)) → ⊥) ↔ More m
  no_more m e f u v = (there, back)
    where
      there : (Runs text e (suc (length m.bytes)) → ⊥) → More m
      there g b k =
          let (i, j, x, y) = both_read m (m.bytes ++ (b ∷ [])) k in
          let z : i ≡ e = cc in
          let n : length (m.bytes ++ (b ∷ [])) ≡ suc (length m.bytes) = length-append m.bytes (b ∷ []) ∙ omega arith in
          g (m.bytes ++ (b ∷ []), j, rw (z, n) at y)

      back : More m → Runs text e (suc (length m.bytes)) → ⊥
      back g (l, j, q) =
          let (k, n, b, p, s) = apart (length m.bytes) true (eqb (length m.bytes) 0) text e l j (zero_test (length m.bytes)).0 (zero_test (length m.bytes)).1 q in
          let y : k ≡ m.bytes = cc in
          let o : items (suc (length m.bytes)) true text e ≡ ok (k ++ b ∷ []) j = joined (length m.bytes) true (eqb (length m.bytes) 0) text e k n b j (zero_test (length m.bytes)).0 (zero_test (length m.bytes)).1 p s in
          let o2 : items (suc (length m.bytes)) true text e ≡ ok (m.bytes ++ b ∷ []) j = o ∙ ap (λ (x : List ℕ). ok (x ++ b ∷ []) j) y in
          g b ((begun (Header limit m · Data (m.bytes ++ (b ∷ []))) text).0 (j, at_both (Header limit m) (Data (m.bytes ++ (b ∷ []))) text start e j ((header-exactly limit m text start e).0 u) ((data-fits (suc (length m.bytes)) (m.bytes ++ (b ∷ []))).to text e j o2).1))

  pub row-6 : Placed (reading text name pixels).answer 6 ↔ NoDataByte limit text pixels
  row-6 = both_ways told-6 (there, back)
    where
      there : (h : Head) × (e : TextLocation) × (header limit text start ≡ ok h e) × ((q : TextLocation) × (whole h.width h.height (length pixels) text e ≡ stop 6 q)) → NoDataByte limit text pixels
      there (h, e, u, x) = go (dec_lt (length pixels / h.width) h.height)
        where
          wide : 0 < h.width
          wide = (lead limit text (made h []) ((begun (Header limit (made h [])) text).0 (e, (header-exactly limit (made h []) text start e).0 u))).positive

          go : Dec (length pixels / h.width < h.height) → NoDataByte limit text pixels
          go (yes r) =
              let (l, f, k, v, g) = find text e (suc (row_bytes h.width * (length pixels / h.width))) ((whole-6-few text e h.width h.height (length pixels) r).0 x) in
              let o : row_bytes h.width * suc (length pixels / h.width) ≤ row_bytes h.width * h.height = mul-le-mul_left (row_bytes h.width) r in
              let p : 0 < row_bytes h.width = omega (arith, wide) in
              (made h l, (omega arith, omega arith), both_at (made h l) e f u v, (no_more (made h l) e f u v).0 g)
          go (no r) =
              let s : h.height ≤ length pixels / h.width = omega arith in
              let (l, f, k, v, g) = find text e (row_bytes h.width * h.height) ((whole-6-all text e h.width h.height (length pixels) s).0 x) in
              let o : row_bytes h.width * h.height ≤ row_bytes h.width * (length pixels / h.width) = mul-le-mul_left (row_bytes h.width) s in
              (made h l, (k, omega arith), both_at (made h l) e f u v, (no_more (made h l) e f u v).0 g)

      back : NoDataByte limit text pixels → (h : Head) × (e : TextLocation) × (header limit text start ≡ ok h e) × ((q : TextLocation) × (whole h.width h.height (length pixels) text e ≡ stop 6 q))
      back (m, (a, b), k, g) = let (e, f, u, v) = both_read m m.bytes k in (head_of m, e, u, go e ((no_more m e f u v).1 g) (dec_lt (rows m pixels) m.height))
        where
          go : (e : TextLocation) → (Runs text e (suc (length m.bytes)) → ⊥) → Dec (rows m pixels < m.height) → (q : TextLocation) × (whole m.width m.height (length pixels) text e ≡ stop 6 q)
          go e n (yes r) = (whole-6-few text e m.width m.height (length pixels) r).1 (λ x. n (less text e (suc (W m * rows m pixels)) (suc (length m.bytes)) (omega arith) x))
          go e n (no r) = (whole-6-all text e m.width m.height (length pixels) (omega arith)).1 (λ x. n (less text e (W m * m.height) (suc (length m.bytes)) (omega arith) x))
