-- The earliest place of a refusal in the data bytes and in the closing: 6 and 7.
use Rattle.std.proofs.Math.Path.{◌≡◌, refl, ap}
use Rattle.std.proofs.Common.{sym, ◌∙◌, inl, inr, arith}
use Rattle.std.specs.Prelude.{◌↔◌, ◌⊎◌, Bool, length, eqb, ltb}
use Prim.Native.Nat.{ℕ, zero, suc, ◌+◌, ◌*◌, ◌/◌, ◌≤◌, ◌<◌}
use Rattle.std.proofs.Math.Bool.{true, false}
use Rattle.std.proofs.lemmas.Bool.{false≢true}
use mathlib.Core.List.{List, [], ◌∷◌, ◌++◌, append_assoc}
use borrow.Author.Tests.{eqb-true, ltb-true, ltb-false, le-ltb}
use Rattle.text.specs.declared.TextLocation.{TextLocation}
use Rattle.text.specs.Place.{rest, start, past}
use Rattle.text.specs.Reader.{Result, ok, stop, bad, then, Reader, ◌>>=◌, ◌>>◌}
use Rattle.text.specs.Leaf.{give}
use Rattle.text.specs.Outcome.{refused}
use Rattle.header.specs.Header.{Head, header}
use Rattle.body.specs.Data.{item, items, closing, tail, trailer, row_bytes}
use Rattle.cells.specs.Cells.{count}
use Rattle.rows.specs.Rows.{mismatch, ending, whole}
use Rattle.image.specs.Reading.{picture, reading}
use Rattle.grammar.specs.Lang.{Lang, ◌·◌}
use Rattle.grammar.specs.Grammar.{Mask, Header, Data, Closing}
use Rattle.grammar.proofs.Bind.{bind-case, bind_ok, bind-stop}
use Rattle.grammar.proofs.Fits.{Any, At, Fits}
use Rattle.grammar.specs.Devices.{made}
use Rattle.grammar.proofs.Headers.{header-exactly}
use Rattle.grammar.proofs.Exact.{data-fits, closing-fits}
use Rattle.claims.specs.Terms.{Begun, W, rows}
use Rattle.claims.proofs.Numbers.{no_number, only_31, Numbered, numbers, header-numbered, items-numbered, item-numbered, trailer-numbered, bind-numbered, give-numbered, placed-number}
use Rattle.claims.proofs.Mismatch.{zero_test}
use Rattle.refusals.proofs.Stages.{stop-first, stop-second, at_both, at-parts, read_at, begun}
use Rattle.places.specs.Savable.{Savable, Read}
use Rattle.places.proofs.SavingParts.{bind-any, items-open, closing-open}
use Rattle.places.proofs.EarliestLift.{savable-same, told-picture, at-line}

pub header-fits : (lim : ℕ) (h : Head) → Fits (header lim) h (Unit {0}) (Header lim (made h [])) Any
header-fits lim h = record {
  to = λ t i e q. (tt, (header-exactly lim (made h []) t i e).0 q);
  from = λ t i w r x d l f. (header-exactly lim (made h []) t i (past i w)).1 (w, r, d, l, f, refl);
}

-- the header and k h data bytes
module _ (lim : ℕ) (k : Head → ℕ) where
  abbrev paired : Head → List ℕ → Reader (Head × List ℕ)
  paired h l = give (h, l)

  abbrev pairs : Head → Reader (Head × List ℕ)
  pairs h = items (k h) true >>= paired h

  unfoldable both : Reader (Head × List ℕ)
  both = header lim >>= pairs

  abbrev Both : Head × List ℕ → Lang
  Both a w = (length a.1 ≡ k a.0) × (Header lim (made a.0 []) · Data a.1) w

  both_ok : (t : List ℕ) (i : TextLocation) (h : Head) (m : TextLocation) (l : List ℕ) (e : TextLocation) → header lim t i ≡ ok h m → items (k h) true t m ≡ ok l e → both t i ≡ ok (h, l) e
  unfolding both give
  both_ok t i h m l e q r = bind_ok (header lim) pairs t i h m q ∙ bind_ok (items (k h) true) (paired h) t m l e r

  both-fits : (a : Head × List ℕ) → Fits both a (Unit {0}) (Both a) Any
  unfolding both give Any
  both-fits (h, l) = record {
    to = λ t i e q. bind-case (header lim) pairs t i q (λ g m q1 r1. bind-case (items (k g) true) (paired g) t m r1 (λ v n q2 r2. there t i e g m v n q1 q2 r2));
    from = λ t i w r x d (y, z) f. back t i w r d y z;
  }
    where
      there : (t : List ℕ) (i e : TextLocation) (g : Head) (m : TextLocation) (v : List ℕ) (n : TextLocation) → header lim t i ≡ ok g m → items (k g) true t m ≡ ok v n → ◌≡◌ {A = Result (Head × List ℕ)} (ok (g, v) n) (ok (h, l) e) → Unit {0} × At (Both (h, l)) (λ r. Unit {0}) t i e
      there t i e g m v n q1 q2 r =
          let a : ◌≡◌ {A = Head × List ℕ} (g, v) (h, l) = cc in
          let b : g ≡ h = ap (λ (x : Head × List ℕ). x.0) a in
          let c : v ≡ l = ap (λ (x : Head × List ℕ). x.1) a in
          let o : n ≡ e = cc in
          let p : header lim t i ≡ ok h m = q1 ∙ ap (λ (x : Head). ok x m) b in
          let s : items (k h) true t m ≡ ok l e = ap (λ (x : Head). items (k x) true t m) (sym b) ∙ q2 ∙ ap (λ (x : List ℕ). ok x n) c ∙ ap (λ (x : TextLocation). ok l x) o in
          let (y, z) = (data-fits (k h) l).to t m e s in
          let (w, u, d, f, x, j) = at_both (Header lim (made h [])) (Data l) t i m e ((header-exactly lim (made h []) t i m).0 p) z in
          (tt, (w, u, d, (y, f), tt, j))

      back : (t : List ℕ) (i : TextLocation) (w r : List ℕ) → rest t i ≡ w ++ r → length l ≡ k h → (Header lim (made h []) · Data l) w → (header lim >>= pairs) t i ≡ ok (h, l) (past i w)
      back t i w r d y z =
          let (m, u, v) = at-parts (Header lim (made h [])) (Data l) t i (past i w) (w, r, d, z, tt, refl) in
          let p : header lim t i ≡ ok h m = (header-exactly lim (made h []) t i m).1 u in
          let s : items (k h) true t m ≡ ok l (past i w) = (read_at (data-fits (k h) l) t m (past i w)).1 (y, v) in
          bind_ok (header lim) pairs t i h m p ∙ bind_ok (items (k h) true) (paired h) t m l (past i w) s

-- a header says nothing of the data bytes
pub header-as : (lim : ℕ) (h : Head) (l w : List ℕ) → Header lim (made h []) w ↔ Header lim (made h l) w
unfolding Header
header-as lim h l w = ((λ k. k), λ k. k)

both-closing : (lim : ℕ) (k : Head → ℕ) (h : Head) (l : List ℕ) → length l ≡ k h → (w : List ℕ) → (Both lim k (h, l) · Closing) w ↔ (Header lim (made h l) · Data l · Closing) w
unfolding ◌·◌
both-closing lim k h l n w = (
  (λ (u, v, q, (x, (a, b, o, y, z)), c). (a, b ++ v, q ∙ ap (λ (j : List ℕ). j ++ v) o ∙ append_assoc a b v, (header-as lim h l a).0 y, (b, v, refl, z, c))),
  λ (a, b, q, y, (d, v, o, z, c)). (a ++ d, v, q ∙ ap (λ (j : List ℕ). a ++ j) o ∙ sym (append_assoc a d v), (n, (a, d, refl, (header-as lim h l a).1 y, z)), c),
)

pub begun-as : (K L : Lang) (t : List ℕ) → ((w : List ℕ) → K w ↔ L w) → Begun K t ↔ Begun L t
begun-as K L t f = ((λ (u, v, q, k). (u, v, q, (f u).0 k)), λ (u, v, q, l). (u, v, q, (f u).1 l))

module _ (text name pixels : List ℕ) (p : TextLocation) where
  abbrev lim : ℕ
  lim = length name

  abbrev pub many : Head → ℕ
  many h = count h.width h.height (length pixels)

  abbrev pub tests : Head → List ℕ → Reader (List ℕ)
  tests h = ending (eqb (length pixels / h.width) h.height) (ltb (length pixels / h.width) h.height) (eqb (many h) 0)

  -- where the header ends
  pub headed : (c : ℕ) → 6 ≤ c → (reading text name pixels).answer ≡ refused c p → (h : Head) × (m : TextLocation) × (header lim text start ≡ ok h m) × ((items (many h) true >>= tests h) text m ≡ stop c p)
  unfolding picture whole
  headed c l q =
      let x : (header lim >>= pictured) text start ≡ stop c p = told-picture text name pixels c p q in
      let (h, m, u, v) = (stop-second (header lim) pictured c text start (header-numbered lim) (λ a b. omega arith)).0 (p, x) in
      (h, m, u, (stop-first (items (many h) true >>= tests h) (pair h) c text m (pair-numbered h) (λ a b. omega arith) p).0 (sym (bind_ok (header lim) pictured text start h m u) ∙ x))
    where
      pair : Head → List ℕ → Reader (Head × List ℕ)
      pair h l = give (h, l)

      pair-numbered : (h : Head) (l : List ℕ) → Numbered 1 0 no_number (pair h l)
      pair-numbered h l = give-numbered (h, l)

      pictured : Head → Reader (Head × List ℕ)
      pictured h = (items (many h) true >>= tests h) >>= pair h

  tail-8 : Numbered 8 8 no_number tail
  unfolding tail
  tail-8 = search numbers

  abbrev pub few : Head → Bool
  few h = ltb (length pixels / h.width) h.height

  -- the buffer has the picture's rows, or it has too few
  pub enough : (h : Head) → few h ≡ false → (h.height ≤ length pixels / h.width) × (many h ≡ row_bytes h.width * h.height)
  enough h q =
      let l : h.height ≤ length pixels / h.width = ltb-false (length pixels / h.width) h.height q in
      (l, ap (λ (k : ℕ). row_bytes h.width * k) (omega arith))

  lacking : (h : Head) → few h ≡ true → (length pixels / h.width < h.height) × (row_bytes h.width * (length pixels / h.width) + 1 ≡ suc (many h))
  lacking h q =
      let l : length pixels / h.width < h.height = ltb-true (length pixels / h.width) h.height q in
      (l, ap (λ (k : ℕ). row_bytes h.width * k + 1) (omega arith) ∙ and_one (many h))
    where
      and_one : (k : ℕ) → k + 1 ≡ suc k
      and_one k = omega arith

  -- 7 comes from the closing, and the rows are there
  from-closing : (h : Head) (e d f : Bool) → eqb (length pixels / h.width) h.height ≡ e → few h ≡ d → (l : List ℕ) (m : TextLocation) → ending e d f l text m ≡ stop 7 p → (few h ≡ false) × (closing text m ≡ stop 7 p)
  unfolding trailer
  from-closing h true d f a b l m q = (
    le-ltb (length pixels / h.width) h.height (omega (arith, eqb-true (length pixels / h.width) h.height a)),
    (stop-first closing (λ a. tail) 7 text m (λ a. tail-8) (λ a b. omega arith) p).0 ((stop-first (closing >> tail) (λ a. give l) 7 text m (λ a. give-numbered {lo = 1} {hi = 0} {bare = no_number} l) (λ a b. omega arith) p).0 q),
  )
  from-closing h false true f a b l m q = absurd (omega (arith, placed-number (bind-numbered (item-numbered {lo = 6} {hi = 6} {bare = only_31} f refl) (λ b. none-numbered)) text m 7 p q))
    where
      none-numbered : Numbered 6 6 only_31 mismatch
      none-numbered = search numbers
  from-closing h false false f a b l m q = (b, (stop-first closing (λ a. tail) 7 text m (λ a. tail-8) (λ a b. omega arith) p).0 ((stop-first (closing >> tail) (λ a. mismatch) 7 text m (λ a. none-numbered) (λ a b. omega arith) p).0 q))
    where
      none-numbered : Numbered 1 0 only_31 mismatch
      none-numbered = search numbers

  -- 7: the header and the data bytes stand there, and a closing can after them
  pub earliest-7 : (reading text name pixels).answer ≡ refused 7 p
      → (m : Mask) × (m.height ≤ rows m pixels) × (length m.bytes ≡ W m * m.height) × Begun (Header lim m · Data m.bytes) text × Savable text p (Begun (Header lim m · Data m.bytes · Closing))
  earliest-7 q =
      let (h, m, u, x) = headed 7 (omega arith) q in
      let (l, n, v, y) = (stop-second (items (many h) true) (tests h) 7 text m (items-numbered {lo = 6} {hi = 6} {bare = no_number} (many h) true refl) (λ a b. omega arith)).0 (p, x) in
      let (w, z) = from-closing h (eqb (length pixels / h.width) h.height) (few h) (eqb (many h) 0) refl refl l n (sym (bind_ok (items (many h) true) (tests h) text m l n v) ∙ x) in
      let (k, r) = enough h w in
      let (j, d) = (data-fits (many h) l).to text m n v in
      let s = at-line (both lim many) (λ a. closing) (λ a b. give a) (Both lim many) (λ a. Unit {0}) (λ b. Unit {0}) (λ a b. Closing) (both-fits lim many) (λ a w k. tt) (λ a s b. closing-fits) (λ a s. bind-any closing-open) text 7 p (h, l) n (both_ok lim many text start h m l n u v) z in (
        made h l,
        k,
        j ∙ r,
        (begun (Header lim (made h l) · Data l) text).0 (n, at_both (Header lim (made h l)) (Data l) text start m n ((header-exactly lim (made h l) text start m).0 u) d),
        savable-same text p (λ y. (
          (λ (b, o, c). (begun-as (Both lim many (h, l) · Closing) (Header lim (made h l) · Data l · Closing) y (both-closing lim many h l j)).0 c),
          λ c. (tt, tt, (begun-as (Both lim many (h, l) · Closing) (Header lim (made h l) · Data l · Closing) y (both-closing lim many h l j)).1 c),
        )) s,
      )

  -- where k data bytes are not read, k can still stand there
  still : (k : ℕ) (h : Head) (m : TextLocation) → header lim text start ≡ ok h m → items k true text m ≡ stop 6 p → Savable text p (λ t. (l : List ℕ) × (length l ≡ k) × Begun (Header lim (made h []) · Data l) t)
  still k h m u x =
      at-line (header lim) (λ g. items k true) (λ g l. give l) (λ g. Header lim (made g [])) (λ g. Unit {0}) (λ l. length l ≡ k) (λ g l. Data l) (header-fits lim) (λ a w k. tt) (λ g s l. data-fits k l) (λ g s. items-open k true) text 6 p h m u x

  -- 6 comes from the data bytes of the rows, or, with too few rows, from the one after them
  abbrev Next6 : Head → TextLocation → Type 0
  Next6 h m = (l : List ℕ) × (n : TextLocation) × (items (many h) true text m ≡ ok l n) × (few h ≡ true) × (item (eqb (many h) 0) text n ≡ stop 6 p)

  source-6 : (reading text name pixels).answer ≡ refused 6 p → (h : Head) × (m : TextLocation) × (header lim text start ≡ ok h m) × ((items (many h) true text m ≡ stop 6 p) ⊎ Next6 h m)
  unfolding ◌>>=◌
  source-6 q =
      let (h, m, u, x) = headed 6 (omega arith) q in
      (h, m, u, go h m (items (many h) true text m) refl x)
    where
      none-numbered : Numbered 1 0 only_31 mismatch
      none-numbered = search numbers

      trailer-7 : {A : Type 0} {f : Unit {0} → Reader A} → ((a : Unit {0}) → Numbered 7 8 only_31 (f a)) → Numbered 7 8 only_31 (trailer >>= f)
      trailer-7 g = bind-numbered trailer-78 g
        where
          trailer-78 : Numbered 7 8 only_31 trailer
          trailer-78 = search (numbers, trailer-numbered)

      by : (e d f : Bool) (l : List ℕ) (n : TextLocation) → ending e d f l text n ≡ stop 6 p → (d ≡ true) × (item f text n ≡ stop 6 p)
      by true d f l n x = absurd (omega (arith, placed-number (trailer-7 (λ a. give-numbered l)) text n 6 p x))
      by false true f l n x = (refl, (stop-first (item f) (λ b. mismatch) 6 text n (λ b. none-numbered) (λ a b. omega arith) p).0 x)
      by false false f l n x = absurd (omega (arith, placed-number (trailer-7 (λ a. rest-31)) text n 6 p x))
        where
          rest-31 : Numbered 7 8 only_31 mismatch
          rest-31 = search numbers

      go : (h : Head) (m : TextLocation) (r : Result (List ℕ)) → items (many h) true text m ≡ r → then r (λ l e. tests h l text e) ≡ stop 6 p → (items (many h) true text m ≡ stop 6 p) ⊎ Next6 h m
      go h m (ok l n) u x = let (w, z) = by (eqb (length pixels / h.width) h.height) (few h) (eqb (many h) 0) l n x in inr (l, n, u, w, z)
      go h m (stop d n) u x = inl (u ∙ cc)
      go h m (bad d n) u x = let z : ◌≡◌ {A = ℕ} 0 1 = cc in absurd (omega arith)

  -- one more is refused: so many and one are
  one_more : (k : ℕ) (f g : Bool) (i : TextLocation) (l : List ℕ) (n : TextLocation) → (k ≡ 0 → g ≡ f) → (0 < k → g ≡ false) → items k f text i ≡ ok l n → item g text n ≡ stop 6 p → items (suc k) f text i ≡ stop 6 p
  unfolding items give
  one_more zero f g i l n a b q x =
      let z : i ≡ n = cc in
      bind-stop (item f) _ text i 6 p (ap (λ (y : Bool). item y text i) (sym (a refl)) ∙ ap (item g text) z ∙ x)
  one_more (suc k) f g i l n a b q x = bind-case (item f) (λ b. items k false >>= λ l. give (b ∷ l)) text i q (λ c j q1 q2. bind-case (items k false) (λ l. give (c ∷ l)) text j q2 (λ v o q3 q4. last c j q1 (one_more k false g j v n (λ y. b (omega arith)) (λ y. b (omega arith)) (q3 ∙ ap (λ (y : TextLocation). ok v y) (ends c v o q4)) x)))
    where
      ends : (c : ℕ) (v : List ℕ) (o : TextLocation) → ◌≡◌ {A = Result (List ℕ)} (ok (c ∷ v) o) (ok l n) → o ≡ n
      ends c v o z = cc

      last : (c : ℕ) (j : TextLocation) → item f text i ≡ ok c j → items (suc k) false text j ≡ stop 6 p → (item f >>= λ b. items (suc k) false >>= λ l. give (b ∷ l)) text i ≡ stop 6 p
      last c j q1 z = bind_ok (item f) (λ b. items (suc k) false >>= λ l. give (b ∷ l)) text i c j q1 ∙ bind-stop (items (suc k) false) (λ l. give (c ∷ l)) text j 6 p z

  -- so many are refused: one more are
  more-still : (k : ℕ) (f : Bool) (i : TextLocation) → items k f text i ≡ stop 6 p → items (suc k) f text i ≡ stop 6 p
  unfolding items give ◌>>=◌
  more-still zero f i q = let z : ◌≡◌ {A = ℕ} 0 1 = cc in absurd (omega arith)
  more-still (suc k) f i q = go (more-still k false) (item f text i) refl q
    where
      within : (b : ℕ) (j : TextLocation) (r : Result (List ℕ)) → items k false text j ≡ r → then r (λ l e. ok (b ∷ l) e) ≡ stop 6 p → items k false text j ≡ stop 6 p
      within b j (ok l e) u x = let z : ◌≡◌ {A = ℕ} 0 1 = cc in absurd (omega arith)
      within b j (stop d e) u x = u ∙ cc
      within b j (bad d e) u x = let z : ◌≡◌ {A = ℕ} 0 1 = cc in absurd (omega arith)

      go : ((j : TextLocation) → items k false text j ≡ stop 6 p → items (suc k) false text j ≡ stop 6 p) → (r : Result ℕ) → item f text i ≡ r → then r (λ b j. then (items k false text j) (λ l e. ok (b ∷ l) e)) ≡ stop 6 p → then (item f text i) (λ b j. then (items (suc k) false text j) (λ l e. ok (b ∷ l) e)) ≡ stop 6 p
      go g (ok b j) u x = rw (u, g j (within b j (items k false text j) refl x)) refl
      go g (stop d e) u x = rw u x
      go g (bad d e) u x = let z : ◌≡◌ {A = ℕ} 0 1 = cc in absurd (omega arith)

  -- 6: all the data bytes that are read can still stand there
  abbrev Saved6 : Type 0
  Saved6 = (m : Mask) × (k : ℕ) × Read m pixels k × Begun (Header lim m) text × Savable text p (λ t. (l : List ℕ) × (length l ≡ k) × Begun (Header lim m · Data l) t)

  pub earliest-6 : (reading text name pixels).answer ≡ refused 6 p → Saved6
  earliest-6 q = let (h, m, u, x) = source-6 q in go h m u (few h) refl x
    where
      told : (h : Head) (m : TextLocation) → header lim text start ≡ ok h m → (k : ℕ) → Read (made h []) pixels k → items k true text m ≡ stop 6 p → Saved6
      told h m u k r x = (made h [], k, r, (begun (Header lim (made h [])) text).0 (m, (header-exactly lim (made h []) text start m).0 u), still k h m u x)

      go : (h : Head) (m : TextLocation) → header lim text start ≡ ok h m → (d : Bool) → few h ≡ d → (items (many h) true text m ≡ stop 6 p) ⊎ Next6 h m → Saved6
      go h m u false w (inl x) = let (a, b) = enough h w in told h m u (row_bytes h.width * h.height) (inl (a, refl)) (ap (λ (k : ℕ). items k true text m) (sym b) ∙ x)
      go h m u false w (inr (l, n, x, y, z)) = absurd (false≢true (sym w ∙ y))
      go h m u true w (inl x) = let (a, b) = lacking h w in told h m u (row_bytes h.width * (length pixels / h.width) + 1) (inr (a, refl)) (ap (λ (k : ℕ). items k true text m) b ∙ more-still (many h) true m x)
      go h m u true w (inr (l, n, x, y, z)) =
          let (a, b) = lacking h w in
          told h m u (row_bytes h.width * (length pixels / h.width) + 1) (inr (a, refl)) (ap (λ (k : ℕ). items k true text m) b ∙ one_more (many h) true (eqb (many h) 0) m l n (λ e. (zero_test (many h)).0 e) (λ e. (zero_test (many h)).1 e) x z)
