-- No number is told but those of the table of refusals.
use Rattle.std.specs.Prelude.{◌≡◌, refl, ℕ, List, length}
use Rattle.std.proofs.Common.{inl, inr, arith}
use Rattle.text.specs.declared.TextLocation.{TextLocation}
use Rattle.text.specs.Place.{start}
use Rattle.text.specs.Reader.{Result, ok, stop, bad, then, ◌>>=◌}
use Rattle.text.specs.Leaf.{give}
use Rattle.text.specs.Outcome.{outcome}
use Rattle.header.specs.Header.{Head, header}
use Rattle.rows.specs.Rows.{whole}
use Rattle.image.specs.Reading.{picture, reading}
use Rattle.claims.proofs.Numbers.{header-numbered, whole-numbered, placed-number, unplaced-number, thirty-one, header-number}
use Rattle.refusals.specs.Terms.{InTable}

pub in_table : (text name pixels : List ℕ) → InTable (reading text name pixels).answer
unfolding reading picture ◌>>=◌ give
in_table text name pixels = go (header (length name) text start) refl
  where
    after : (h : Head) (e : TextLocation) (r : Result (List ℕ)) → whole h.width h.height (length pixels) text e ≡ r → InTable (outcome (λ (p : Head × List ℕ). p.0) (then r (λ l e. ok (h, l) e)))
    after h e (ok l m) q = tt
    after h e (stop c m) q = let (x, y) = placed-number (whole-numbered h.width h.height (length pixels)) text e c m q in (omega arith, y)
    after h e (bad c m) q = inr (thirty-one (whole-numbered h.width h.height (length pixels)) text e c m q)

    go : (r : Result Head) → header (length name) text start ≡ r → InTable (outcome (λ (p : Head × List ℕ). p.0) (then r (λ h e. then (whole h.width h.height (length pixels) text e) (λ l e. ok (h, l) e))))
    go (ok h e) q = after h e (whole h.width h.height (length pixels) text e) refl
    go (stop c e) q = let (x, y) = placed-number (header-numbered (length name)) text start c e q in (x, omega arith)
    go (bad c e) q = inl (header-number c (unplaced-number (header-numbered (length name)) text start c e q))
