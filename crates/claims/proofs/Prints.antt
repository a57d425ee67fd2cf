-- The numbers of a listing are all small enough to be printed: so what is printed is a word of the lines of its answer.
use Rattle.std.specs.Prelude.{◌≡◌, ℕ, ◌+◌, ◌*◌, ◌^◌, ◌≤◌, ◌<◌, Bool, true, false, List, [], ◌∷◌, ◌++◌, length, take, drop, eqb, ltb, ℤ}
use Rattle.std.proofs.Math.Path.{refl}
use Rattle.std.proofs.Common.{ap, mul-le-mul_right, le_of_lt, length-take, ltb-false}
use native.Mathlib.Omega.{arith}
use Rattle.std.proofs.Math.Option.{Option, none, some}
use Rattle.text.specs.declared.TextLocation.{TextLocation}
use Rattle.text.specs.Place.{pick, byte_of, start}
use Rattle.text.proofs.PlaceLaws.{start-sound}
use Rattle.text.specs.Rest.{Reach, Sound}
use Rattle.text.proofs.Rest.{reach-inside, walk-sound}
use Rattle.text.specs.Reader.{Result, ok, stop, bad, then, ◌>>=◌, Local}
use Rattle.text.proofs.Reader.{bind-local}
use Rattle.text.specs.Leaf.{give}
use Rattle.text.proofs.Leaf.{give-local}
use Rattle.text.specs.Outcome.{Outcome, accepted, refused, unplaced, outcome}
use Rattle.header.specs.Header.{Head, header}
use Rattle.header.proofs.Header.{header-local}
use Rattle.rows.specs.Rows.{whole}
use Rattle.rows.proofs.RowsLaws.{whole-local}
use Rattle.image.specs.Reading.{picture, reading}
use Rattle.ink.specs.Ink.{ink_of}
use Rattle.image.specs.Limited.{cells_of, unpictured, pictured, after_header, limited, unread, within}
use Rattle.listing.specs.Listing.{ink_in, listed_of, Listed, listed_within, listed, listing}
use Rattle.grammar.specs.Lang.{◌·◌}
use Rattle.grammar.specs.Grammar.{Mask, Side, Define, Hotspot, Header, Format}
use Rattle.grammar.specs.Devices.{made}
use Rattle.claims.specs.Terms.{Lines}
use Rattle.claims.proofs.Numbers.{header-numbered, whole-numbered, placed-number, unplaced-number, thirty-one, header-number, header-bounds}
use Rattle.claims.proofs.Accepts.{accepts-exactly}
use Rattle.claims.proofs.Headless.{stands}
use Rattle.claims.specs.Written.{Hots, Printable}
use Rattle.claims.proofs.Written.{ranged, lines}

-- ---- of a header

pub hot-ranges : (name : List ℕ) (o : Option (ℤ × ℤ)) (w : List ℕ) → Hotspot name o w → Hots o
unfolding Hotspot Define ◌·◌
hot-ranges name none w h = tt
hot-ranges name (some (x, y)) w (a, b, q, (c1, d1, q1, k1, (c2, d2, q2, k2, (c3, d3, q3, k3, (c4, d4, q4, k4, (c5, d5, q5, k5, r5))))), (e1, f1, p1, l1, (e2, f2, p2, l2, (e3, f3, p3, l3, (e4, f4, p4, l4, (e5, f5, p5, l5, s5)))))) = (ranged x c5 k5, ranged y e5 l5)

ranges : (lim : ℕ) (m : Mask) (u : List ℕ) → Header lim m u → (m.width < 4294967296) × (m.height < 4294967296) × Hots m.hot
unfolding Header Define Side ◌·◌
ranges lim m u (a, b, q0, star, (c, d, q1, (x1, y1, p1, h1, (x2, y2, p2, h2, (x3, y3, p3, h3, (x4, y4, p4, h4, (x5, y5, p5, h5, l5))))), (f, g, q2, (z1, w1, r1, k1, (z2, w2, r2, k2, (z3, w3, r3, k3, (z4, w4, r4, k4, (z5, w5, r5, k5, l6))))), (i, j, q3, hot, array)))) = (h5.2, k5.2, hot-ranges m.name m.hot i hot)

-- ---- of a reading

picture-local : (limit n : ℕ) → Local (picture limit n)
unfolding picture
picture-local limit n = bind-local (header-local limit) (λ h. bind-local (whole-local h.width h.height n) (λ l. give-local (h, l)))

module _ (text name pixels : List ℕ) (short : length text ≤ 65536) where
  abbrev told : Result (Head × List ℕ) → Outcome Head
  told = outcome (λ (p : Head × List ℕ). p.0)

  place-small : (p : TextLocation) → Reach text start p → (p.byte.0 < 2 ^ 64) × (p.line.0 < 2 ^ 64) × (p.column.0 < 2 ^ 64) × (p.start.0 < 2 ^ 64)
  place-small p w =
      let s : Sound p = walk-sound w start-sound in
      let b : byte_of p ≤ length text = reach-inside text start w (omega arith) in
      (omega arith, omega (arith, s.line), omega (arith, s.start), omega (arith, s.start))

  stopped-small : (c : ℕ) (p : TextLocation) → c ≤ 8 → picture (length name) (length pixels) text start ≡ stop c p → Printable (refused c p)
  stopped-small c p l q = let (b, i, j, k) = place-small p (rw q at ((picture-local (length name) (length pixels)).reach text start)) in (omega arith, b, i, j, k)

  printable : Printable (reading text name pixels).answer
  unfolding reading picture ◌>>=◌ give
  printable = go (header (length name) text start) refl
    where
      after : (h : Head) (e : TextLocation) → header (length name) text start ≡ ok h e → (r : Result (List ℕ)) → whole h.width h.height (length pixels) text e ≡ r → Printable (told (then r (λ l e. ok (h, l) e)))
      after h e q (ok l m) z = let (u, v, d, k) = stands (length name) text h e q in let (a, b, c) = ranges (length name) (made h []) u k in (omega arith, omega arith, c)
      after h e q (stop c m) z = stopped-small c m (omega (arith, placed-number (whole-numbered h.width h.height (length pixels)) text e c m z)) (rw (q, z))
      after h e q (bad c m) z = omega (arith, thirty-one (whole-numbered h.width h.height (length pixels)) text e c m z)

      go : (r : Result Head) → header (length name) text start ≡ r → Printable (told (then r (λ h e. then (whole h.width h.height (length pixels) text e) (λ l e. ok (h, l) e))))
      go (ok h e) q = after h e q (whole h.width h.height (length pixels) text e) refl
      go (stop c e) q = stopped-small c e (omega (arith, placed-number (header-numbered (length name)) text start c e q)) (rw q)
      go (bad c e) q = omega (arith, (header-bounds c (header-number c (unplaced-number (header-numbered (length name)) text start c e q))).1)

-- ---- of the ink

ink-few : (l : List ℕ) → ink_of l ≤ length l
ink-few [] = omega arith
ink-few (x ∷ l) = go (eqb x 0) (ink-few l)
  where
    go : (d : Bool) → ink_of l ≤ length l → pick d 1 0 + ink_of l ≤ length (x ∷ l)
    go true h = omega arith
    go false h = omega arith

below : (a b : ℕ) → a < 4294967296 → b < 4294967296 → a * b < 2 ^ 64
below a b h k = omega (arith, mul-le-mul_right b (le_of_lt h))

-- of an accepted reading, whatever cells it is counted in
ink-small : (text name pixels cells : List ℕ) (a : Outcome Head) → (reading text name pixels).answer ≡ a → ink_in a cells < 2 ^ 64
unfolding Format ◌·◌
ink-small text name pixels cells (accepted d) q =
    let (m, e, ((u, v, x, k, l), n), r) = (accepts-exactly text name pixels d).0 q in
    let (a, b, c) = ranges (length name) m u k in
    omega (arith, ink-few (take (cells_of d) cells), length-take (cells_of d) cells, ap cells_of e, below m.width m.height a b)
ink-small text name pixels cells (refused c p) q = omega arith
ink-small text name pixels cells (unplaced c) q = omega arith

-- ---- of a listing

-- a refused header tells the same whatever is lent
refused-header : (text name : List ℕ) (r : Result Head) → header (length name) text start ≡ r → length text ≤ 65536 → ((h : Head) (e : TextLocation) → r ≡ ok h e → ⊥) → Printable (outcome (λ (h : Head). h) r)
unfolding reading picture ◌>>=◌
refused-header text name (ok h e) q s n = absurd (n h e refl)
refused-header text name (stop c e) q s n = rw q at (printable text name [] s)
refused-header text name (bad c e) q s n = rw q at (printable text name [] s)

pub prints : (text name cells : List ℕ) → Lines (listed text name cells).told (listed text name cells).ink (listing text name cells)
unfolding listed_within within limited after_header
prints text name cells = let (p, k) = small in lines (listed text name cells).told (listed text name cells).ink p k
  where
    Small : Listed → Type 0
    Small l = Printable l.told × (l.ink < 2 ^ 64)

    large : (d : Head) (b : Bool) → length text ≤ 65536
        → Small (listed_of (pick b (unpictured (unplaced 42) d.name text name cells) (pictured (reading text name (take (cells_of d) cells)) (drop (cells_of d) cells))))
    large d true s = (omega arith, omega arith)
    large d false s =
        let first = take (cells_of d) cells in
        (printable text name first s, ink-small text name first ((reading text name first).pixels ++ drop (cells_of d) cells) (reading text name first).answer refl)

    go : (b : Bool) → ltb 65536 (length text) ≡ b → (r : Result Head) → header (length name) text start ≡ r → Small (listed_of (pick b (unread (unplaced 41) name cells) (after_header 65536 text name cells r)))
    go true q r k = (omega arith, omega arith)
    go false q (ok d e) k = large d (ltb 65536 (cells_of d)) (ltb-false 65536 (length text) q)
    go false q (stop c e) k = (refused-header text name (stop c e) k (ltb-false 65536 (length text) q) (λ h e x. (let z : ◌≡◌ {A = ℕ} 0 1 = cc in omega arith)), omega arith)
    go false q (bad c e) k = (refused-header text name (bad c e) k (ltb-false 65536 (length text) q) (λ h e x. (let z : ◌≡◌ {A = ℕ} 0 1 = cc in omega arith)), omega arith)

    small : Small (listed text name cells)
    small = go (ltb 65536 (length text)) refl (header (length name) text start) refl
