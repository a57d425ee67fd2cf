-- A refused header: told just where no header stands at the text's start; then no pixel moves and the name handed back is empty.
use Rattle.std.proofs.Math.Path.{◌≡◌, refl, ap}
use Rattle.std.proofs.Common.{sym, ◌∙◌, arith}
use Rattle.std.specs.Prelude.{◌↔◌, ℕ, List, [], length}
use Rattle.text.specs.declared.TextLocation.{TextLocation}
use Rattle.text.specs.Place.{start, past}
use Rattle.text.specs.Reader.{Result, ok, stop, bad, then, ◌>>=◌}
use Rattle.text.specs.Leaf.{give}
use Rattle.text.specs.Outcome.{Outcome, outcome}
use Rattle.header.specs.Header.{Head, header}
use Rattle.header.specs.Answer.{name_in}
use Rattle.rows.specs.Rows.{whole}
use Rattle.image.specs.Reading.{picture, cells_in, reading}
use Rattle.grammar.specs.Grammar.{Mask, Header}
use Rattle.grammar.proofs.Fits.{Any}
use Rattle.grammar.specs.Devices.{head_of, made}
use Rattle.grammar.proofs.Headers.{header-exactly}
use Rattle.grammar.proofs.Exact.{start-rest}
use Rattle.claims.specs.Terms.{Begun, HeaderRefusal}
use Rattle.claims.proofs.Numbers.{placed-number, unplaced-number, thirty-one, header-number, header-bounds, header-numbered, whole-numbered}

-- the header is read exactly where one stands at the text's start
pub stood : (lim : ℕ) (t : List ℕ) (m : Mask) → Begun (Header lim m) t → (e : TextLocation) × (header lim t start ≡ ok (head_of m) e)
unfolding Any
stood lim t m (u, v, q, h) = (past start u, (header-exactly lim m t start (past start u)).1 (u, v, start-rest t ∙ q, h, tt, refl))

pub stands : (lim : ℕ) (t : List ℕ) (h : Head) (e : TextLocation) → header lim t start ≡ ok h e → Begun (Header lim (made h [])) t
stands lim t h e q = let (u, v, d, k, a, o) = (header-exactly lim (made h []) t start e).0 q in (u, v, sym (start-rest t) ∙ d, k)

module _ (t name pixels : List ℕ) where
  pub header-name : (m : Mask) → Begun (Header (length name) m) t → (reading t name pixels).name ≡ m.name
  unfolding reading
  header-name m b = ap name_in (stood (length name) t m b).1

  abbrev told : Result (Head × List ℕ) → Outcome Head
  told = outcome (λ (p : Head × List ℕ). p.0)

  -- what follows a header refuses otherwise
  later : (h : Head) (k : TextLocation) → HeaderRefusal (told (then (whole h.width h.height (length pixels) t k) (λ l e. ok (h, l) e))) → ⊥
  later h k = go (whole h.width h.height (length pixels) t k) refl
    where
      go : (r : Result (List ℕ)) → whole h.width h.height (length pixels) t k ≡ r → HeaderRefusal (told (then r (λ l e. ok (h, l) e))) → ⊥
      go (ok l e) q x = x
      go (stop c e) q x = omega (arith, placed-number (whole-numbered h.width h.height (length pixels)) t k c e q)
      go (bad c e) q x = (header-bounds c x).0 (thirty-one (whole-numbered h.width h.height (length pixels)) t k c e q)

  abbrev Refused : Result Head → Type 0
  Refused r = HeaderRefusal (told (then r (λ h k. then (whole h.width h.height (length pixels) t k) (λ l e. ok (h, l) e))))

  pub headless : HeaderRefusal (reading t name pixels).answer ↔ ((m : Mask) → Begun (Header (length name) m) t → ⊥)
  unfolding reading picture ◌>>=◌ give
  headless = go (header (length name) t start) refl
    where
      go : (r : Result Head) → header (length name) t start ≡ r → Refused r ↔ ((m : Mask) → Begun (Header (length name) m) t → ⊥)
      go (ok h k) q = ((λ x. absurd (later h k x)), λ g. absurd (g (made h []) (stands (length name) t h k q)))
      go (stop c e) q = ((λ x m b. (let (i, p) = stood (length name) t m b in let z : ◌≡◌ {A = ℕ} 0 1 = cc in omega arith)), λ g. placed-number (header-numbered (length name)) t start c e q)
      go (bad c e) q = ((λ x m b. (let (i, p) = stood (length name) t m b in let z : ◌≡◌ {A = ℕ} 0 1 = cc in omega arith)), λ g. header-number c (unplaced-number (header-numbered (length name)) t start c e q))

  pub untouched : HeaderRefusal (reading t name pixels).answer → ((reading t name pixels).name ≡ []) × ((reading t name pixels).pixels ≡ pixels)
  unfolding reading picture ◌>>=◌ give
  untouched = go (header (length name) t start)
    where
      go : (r : Result Head) → Refused r → (name_in r ≡ []) × (cells_in r pixels t ≡ pixels)
      go (ok h k) x = absurd (later h k x)
      go (stop c e) x = (refl, refl)
      go (bad c e) x = (refl, refl)
