-- The place that a refusal tells: it is past the bytes taken so far, no cut up to there is refused for good, and it comes about in one of three ways.
use Rattle.std.specs.Prelude.{◌≡◌, refl, ◌⊎◌, ℕ, zero, suc, ◌+◌, ◌≤◌, ◌<◌, List, [], ◌∷◌, ◌++◌, length, take, drop}
use Rattle.std.proofs.Common.{sym, ap, ◌∙◌, inl, inr, arith, le_of_suc-le-suc, not-suc-le-zero, take-append-drop, length-append, length-drop, length-take-le, take_all}
use Rattle.std.proofs.Math.ListN.{get_elem?}
use Rattle.text.specs.declared.TextLocation.{TextLocation}
use Rattle.text.specs.Place.{byte_of, rest, start, past}
use Rattle.text.proofs.PlaceLaws.{sound-rest, start-sound}
use Rattle.text.specs.Rest.{Reach}
use Rattle.text.proofs.Rest.{reach-inside, walk-unique, walk-sound}
use Rattle.text.specs.Reader.{Result, ok, stop, bad, end_of, Same}
use Rattle.text.proofs.Reader.{cut-end}
use Rattle.text.specs.Outcome.{Outcome, refused, outcome}
use Rattle.header.specs.Header.{Head}
use Rattle.image.specs.Reading.{picture, reading}
use Rattle.grammar.proofs.Bind.{past-byte}
use Rattle.grammar.proofs.Exact.{start-rest}
use Rattle.claims.specs.Terms.{Aligned}
use Rattle.claims.proofs.Cuts.{walk-past}
use Rattle.places.specs.Terms.{Counted, Ahead, Looked, long-symbol, no-width, long-token, Settled, How, ended, wrong, looked}
use Rattle.places.proofs.Sharp.{ends, decided, saw, Sure}
use Rattle.places.proofs.Looks.{Found, picture-checks, found}
use Rattle.places.proofs.Counts

-- ---- texts with the same first bytes

same-front : (u v w : List ℕ) → Same (u ++ v) (u ++ w) (length u)
same-front [] v w j h = absurd (not-suc-le-zero h)
same-front (x ∷ u) v w zero h = refl
same-front (x ∷ u) v w (suc j) h = same-front u v w j (le_of_suc-le-suc h)

same_first : (n : ℕ) (t v : List ℕ) → n ≤ length t → Same t (take n t ++ v) n
same_first n t v h j l = ap (λ (x : List ℕ). get_elem? x j) (sym (take-append-drop n t)) ∙ same-front (take n t) (drop n t) v j (omega (arith, length-take-le n t h))

-- ---- what is told of the reader's result

abbrev told : Result (Head × List ℕ) → Outcome Head
told = outcome (λ (p : Head × List ℕ). p.0)

stopped : (r : Result (Head × List ℕ)) (c : ℕ) (p : TextLocation) → told r ≡ refused c p → r ≡ stop c p
stopped (ok a e) c p q = let z : ◌≡◌ {A = ℕ} 0 1 = cc in absurd (omega arith)
stopped (bad d e) c p q = let z : ◌≡◌ {A = ℕ} 0 1 = cc in absurd (omega arith)
stopped (stop d e) c p q = cc

stopped-at : (text name pixels : List ℕ) (c : ℕ) (p : TextLocation) → (reading text name pixels).answer ≡ refused c p → picture (length name) (length pixels) text start ≡ stop c p
unfolding reading
stopped-at t name pixels c p a = stopped (picture (length name) (length pixels) t start) c p a

told-so : (text name pixels : List ℕ) (c : ℕ) (p : TextLocation) → picture (length name) (length pixels) text start ≡ stop c p → (reading text name pixels).answer ≡ refused c p
unfolding reading
told-so t name pixels c p q = ap told q

-- a check that looked ahead has a byte to look at
inside-ahead : (t : List ℕ) (p : TextLocation) (u w : List ℕ) (b : ℕ) → Ahead t p u w b → byte_of p < length t
inside-ahead t p u w b (v, q, z) = omega (arith, ap length q, length-append u (w ++ (b ∷ v)), length-append w (b ∷ v), length-append u w)

looked-inside : (limit : ℕ) (t : List ℕ) (p : TextLocation) (c : ℕ) → Looked limit t p c → byte_of p < length t
looked-inside limit t p c (long-symbol u w b a k s l h) = inside-ahead t p u w b a
looked-inside limit t p c (no-width u w b a k s l g h e) = inside-ahead t p u w b a
looked-inside limit t p c (long-token d u w b a k s l h) = inside-ahead t p u w b a

-- ---- the place

module _ (t name pixels : List ℕ) (c : ℕ) (p : TextLocation) (a : (reading t name pixels).answer ≡ refused c p) where
  abbrev limit : ℕ
  limit = length name

  abbrev cells : ℕ
  cells = length pixels

  at-it : picture limit cells t start ≡ stop c p
  at-it = stopped-at t name pixels c p a

  reached : Reach t start p
  reached = rw at-it at ((picture-checks limit cells).near.reach t start)

  pub aligned : Aligned p
  aligned = (walk-sound reached start-sound).start

  pub inside : byte_of p ≤ length t
  inside = reach-inside t start reached (omega arith)

  pub there : p ≡ past start (take (byte_of p) t)
  there =
      walk-unique (rw (start-rest t) at reached) (rw (take-append-drop (byte_of p) t) at (walk-past (take (byte_of p) t) (drop (byte_of p) t) start))
      (sym (past-byte start (take (byte_of p) t) ∙ omega (arith, length-take-le (byte_of p) t inside)))

  pub counted : Counted (take (byte_of p) t) p
  counted = Counts.counted-at (take (byte_of p) t) there

  all_of : rest t p ≡ [] → byte_of p ≡ length t
  all_of e = omega (arith, inside, length-drop (byte_of p) t, ap length (sym (sound-rest t p (walk-sound reached start-sound)) ∙ e))

  -- with the next byte it is settled
  settled : byte_of p < length t → Settled t name pixels (byte_of p + 1) c p
  settled l v = told-so (take (byte_of p + 1) t ++ v) name pixels c p ((picture-checks limit cells).near.near t (take (byte_of p + 1) t ++ v) start (rw at-it (λ j h. same_first (byte_of p + 1) t v (omega arith) j (omega arith))) ∙ at-it)

  pub how : How t name pixels c p
  how = go (picture limit cells t start) at-it ((picture-checks limit cells).sharp.sharp t start)
    where
      ahead : (rest t p ≡ []) ⊎ Looked limit t p c → How t name pixels c p
      ahead (inl x) = ended (all_of x)
      ahead (inr x) = looked x (settled (looked-inside limit t p c x))

      go : (r : Result (Head × List ℕ)) → r ≡ stop c p → Sure (Found limit) (picture limit cells) t start r → How t name pixels c p
      go (ok b e) z s = let y : ◌≡◌ {A = ℕ} 0 1 = cc in absurd (omega arith)
      go (bad b e) z s = let y : ◌≡◌ {A = ℕ} 0 1 = cc in absurd (omega arith)
      go (stop d e) z (ends x) = let y : e ≡ p = cc in ended (all_of (rw y at x))
      go (stop d e) z (saw x) = let y : e ≡ p = cc in let n : d ≡ c = cc in ahead (found limit t c p (rw (y, n) at x))
      go (stop d e) z (decided l g) = let y : e ≡ p = cc in wrong (omega (arith, ap byte_of y)) (λ v. told-so (take (byte_of p) t ++ v) name pixels c p (g (take (byte_of p) t ++ v) (rw y (same_first (byte_of p) t v inside)) ∙ z))

-- no cut up to there is refused for good
pub early : (t name pixels : List ℕ) (c : ℕ) (p : TextLocation) → (reading t name pixels).answer ≡ refused c p → (n : ℕ) → n ≤ byte_of p → (d : ℕ) (q : TextLocation)
    → (reading (take n t) name pixels).answer ≡ refused d q → q ≡ past start (take n t)
early t name pixels c p a n h d e z = there (take n t) name pixels d e z ∙ rw cut (ap (past start) (take_all n (take n t) (omega (arith, length-take-le n t (omega (arith, inside t name pixels c p a))))))
  where
    y : picture (length name) (length pixels) (take n t) start ≡ stop d e
    y = stopped-at (take n t) name pixels d e z

    cut : byte_of e ≡ n
    cut = sym (ap (λ (r : Result (Head × List ℕ)). byte_of (end_of r)) y) ∙ cut-end (picture-checks (length name) (length pixels)).near t start n (omega arith) (omega (arith, inside t name pixels c p a)) (rw (stopped-at t name pixels c p a) h)
