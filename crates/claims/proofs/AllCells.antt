-- The cells after any reading of a text with a header, accepted or refused: of every data byte that the text has, and the rest as lent.
use Rattle.std.specs.Prelude.{◌≡◌, ◌⊎◌, ℕ, zero, suc, ◌+◌, ◌*◌, ◌/◌, ◌≤◌, ◌<◌, min, Bool, true, false, length, get_or}
use Rattle.std.proofs.Math.Path.{refl, sym, ap}
use Rattle.std.proofs.Common.{◌∙◌, inl, inr, arith, mul-le-mul_left}
use Rattle.std.proofs.Math.Option.{Option, none, some}
use mathlib.Core.List.{List, [], ◌∷◌, ◌++◌, append_assoc}
use Rattle.std.proofs.Math.ListN.{get_elem?}
use Rattle.text.specs.declared.TextLocation.{TextLocation}
use Rattle.text.specs.Place.{rest, start, past}
use Rattle.text.specs.Reader.{Result, ok, stop, bad, end_of, then, ◌>>=◌}
use Rattle.text.specs.Leaf.{give}
use Rattle.header.specs.Header.{Head}
use Rattle.body.specs.Data.{item, items, Log, logged, log_of}
use Rattle.cells.specs.Cells.{byte_at, painted, count}
use Rattle.image.specs.Reading.{cells_in, reading}
use Rattle.grammar.specs.Lang.{◌·◌}
use Rattle.grammar.specs.Grammar.{Mask, Data, Header}
use Rattle.grammar.proofs.Bind.{move}
use Rattle.grammar.proofs.Fits.{Any}
use Rattle.grammar.proofs.Headers.{header-exactly}
use Rattle.grammar.proofs.Exact.{start-rest, data-fits}
use Rattle.claims.specs.Terms.{having, W, rows, Rule, Begun}
use Rattle.claims.proofs.Painted.{has, painted-length, as_lent, as-rule, past-rows}
use Rattle.claims.proofs.SymbolCut.{lead}

-- ---- data byte k of a log is the last of a run of k + 1, if there is such a run

abbrev Told : Result (List ℕ) → ℕ → Option ℕ → Type 0
Told (ok l e) k o = o ≡ get_elem? l k
Told (stop c e) k o = o ≡ none
Told (bad c e) k o = o ≡ none

one_more : (b k : ℕ) (o : Option ℕ) (r : Result (List ℕ)) → Told r k o → Told (then r (λ l e. ok (b ∷ l) e)) (suc k) o
one_more b k o (ok l e) h = h
one_more b k o (stop c e) h = h
one_more b k o (bad c e) h = h

log-told : (n k : ℕ) (f : Bool) (t : List ℕ) (i : TextLocation) → k < n → Told (items (suc k) f t i) k (byte_at (log_of n f t i) k)
unfolding items log_of ◌>>=◌ give
log-told zero k f t i h = absurd (omega arith)
log-told (suc n) zero f t i h = go (item f t i)
  where
    go : (r : Result ℕ) → Told (then r (λ b e. ok (b ∷ []) e)) 0 (byte_at (logged r (λ e. log_of n false t e)) 0)
    go (ok b e) = refl
    go (stop c e) = refl
    go (bad c e) = refl
log-told (suc n) (suc k) f t i h = go (item f t i) (λ e. log-told n k false t e (omega arith))
  where
    go : (r : Result ℕ) → ((e : TextLocation) → Told (items (suc k) false t e) k (byte_at (log_of n false t e) k))
        → Told (then r (λ b e. then (items (suc k) false t e) (λ l e. ok (b ∷ l) e))) (suc k) (byte_at (logged r (λ e. log_of n false t e)) (suc k))
    go (ok b e) ih = one_more b k (byte_at (log_of n false t e) k) (items (suc k) false t e) (ih e)
    go (stop c e) ih = refl
    go (bad c e) ih = refl

log-short : (n : ℕ) (f : Bool) (t : List ℕ) (i : TextLocation) → length (log_of n f t i) ≤ n
unfolding log_of
log-short zero f t i = omega arith
log-short (suc n) f t i = go (item f t i) (λ e. log-short n false t e)
  where
    go : (r : Result ℕ) → ((e : TextLocation) → length (log_of n false t e) ≤ n) → length (logged r (λ e. log_of n false t e)) ≤ suc n
    go (ok b e) ih = omega (arith, ih e)
    go (stop c e) ih = omega arith
    go (bad c e) ih = omega arith

module _ (t name pixels : List ℕ) (m : Mask) (b : Begun (Header (length name) m) t) where
  -- the place after the header, and the data bytes read
  abbrev from : TextLocation
  from = past start b.0

  at-header : rest t start ≡ b.0 ++ b.1
  at-header = start-rest t ∙ b.2

  abbrev log : Log
  log = log_of (count m.width m.height (length pixels)) true t from

  painting : (reading t name pixels).pixels ≡ painted m.width log pixels
  unfolding reading Any
  painting = ap (λ (r : Result Head). cells_in r pixels t) ((header-exactly (length name) m t start from).1 (b.0, b.1, at-header, b.3, tt, refl))

  wide : 0 < m.width
  wide = (lead (length name) t m b).positive

  -- the text has header and data bytes l exactly if a run of so many is read there
  run→ : (l : List ℕ) (k : ℕ) → length l ≡ k → Begun (Header (length name) m · Data l) t → (e : TextLocation) × (items k true t from ≡ ok l e)
  unfolding ◌·◌ Any
  run→ l k s (u, v, q, (c, d, q2, hc, hd)) =
      let x : rest t start ≡ c ++ (d ++ v) = start-rest t ∙ q ∙ ap (λ (x : List ℕ). x ++ v) q2 ∙ append_assoc c d v in
      let z : past start c ≡ from = ap end_of (sym ((header-exactly (length name) m t start (past start c)).1 (c, d ++ v, x, hc, tt, refl)) ∙ (header-exactly (length name) m t start from).1 (b.0, b.1, at-header, b.3, tt, refl)) in
      (past from d, (data-fits k l).from t from d v s (sym (ap (rest t) z) ∙ move c (d ++ v) t start x) hd tt)

  →run : (l : List ℕ) (k : ℕ) (e : TextLocation) → items k true t from ≡ ok l e → (length l ≡ k) × Begun (Header (length name) m · Data l) t
  unfolding ◌·◌
  →run l k e q =
      let (s, (d, v, x, hd, a, o)) = (data-fits k l).to t from e q in
      let z : b.1 ≡ d ++ v = sym (move b.0 b.1 t start at-header) ∙ x in
      (s, (b.0 ++ d, v, b.2 ∙ ap (λ (x : List ℕ). b.0 ++ x) z ∙ sym (append_assoc b.0 d v), (b.0, d, refl, b.3, hd)))

  pub kept-size : length (reading t name pixels).pixels ≡ length pixels
  kept-size = ap length painting ∙ painted-length m.width log pixels

  pub kept-rest : (c : ℕ) → min (rows m pixels) m.height * m.width ≤ c → get_elem? (reading t name pixels).pixels c ≡ get_elem? pixels c
  kept-rest c h = rw painting (past-rows m pixels wide log (min (rows m pixels) m.height) (log-short (count m.width m.height (length pixels)) true t from) c h)

  abbrev Kept : ℕ → ℕ → Option ℕ → Type 0
  Kept y i v =
      ((l : List ℕ) × (length l ≡ y * W m + i / 8 + 1) × Begun (Header (length name) m · Data l) t × Rule (having m l) y i v)
      ⊎ (((l : List ℕ) → length l ≡ y * W m + i / 8 + 1 → Begun (Header (length name) m · Data l) t → ⊥) × (v ≡ get_elem? pixels (y * m.width + i)))

  pub kept-cells : (y i : ℕ) → y < rows m pixels → y < m.height → i < m.width → Kept y i (get_elem? (reading t name pixels).pixels (y * m.width + i))
  kept-cells y i hr hy hi = rw painting (go (items (suc (y * W m + i / 8)) true t from) refl (log-told (count m.width m.height (length pixels)) (y * W m + i / 8) true t from inside))
    where
      inside : y * W m + i / 8 < count m.width m.height (length pixels)
      inside = let h : suc y ≤ min (rows m pixels) m.height = omega arith in omega (arith, mul-le-mul_left (W m) h)

      none-there : (l : List ℕ) → length l ≡ y * W m + i / 8 + 1 → Begun (Header (length name) m · Data l) t → ((l : List ℕ) (e : TextLocation) → items (suc (y * W m + i / 8)) true t from ≡ ok l e → ⊥) → ⊥
      none-there l s x n = let (e, q) = run→ l (suc (y * W m + i / 8)) (s ∙ omega arith) x in n l e q

      go : (r : Result (List ℕ)) → items (suc (y * W m + i / 8)) true t from ≡ r → Told r (y * W m + i / 8) (byte_at log (y * W m + i / 8)) → Kept y i (get_elem? (painted m.width log pixels) (y * m.width + i))
      go (ok l e) q o =
          let (s, x) = →run l (suc (y * W m + i / 8)) e q in
          let g : get_elem? l (y * W m + i / 8) ≡ some (get_or l (y * W m + i / 8) 0) = has l (y * W m + i / 8) (omega arith) in
          inl (l, s ∙ omega arith, x, as-rule (having m l) pixels wide y i hr hi log (get_or l (y * W m + i / 8) 0) (o ∙ g) g)
      go (stop c e) q o = inr ((λ l s x. none-there l s x (λ l e p. (let z : ◌≡◌ {A = ℕ} 0 1 = cc in omega arith))), as_lent m pixels wide y i hr hi log o)
      go (bad c e) q o = inr ((λ l s x. none-there l s x (λ l e p. (let z : ◌≡◌ {A = ℕ} 0 1 = cc in omega arith))), as_lent m pixels wide y i hr hi log o)
