-- Repeated calls for the next data byte read what the readers of all data bytes and of the trailer read.
use Rattle.std.specs.Prelude.{◌≡◌, false, List, ◌++◌, length, eqb}
use Rattle.std.proofs.Math.Path.{refl, sym, ap}
use Rattle.std.proofs.Common.{◌∙◌, arith, add-one, length-append}
use Prim.Native.Nat.{ℕ, zero, suc, ◌+◌, ◌*◌, ◌≤◌, ◌<◌}
use Rattle.std.proofs.Math.Option.{Option, none, some}
use Rattle.std.proofs.Math.Bool.{true}
use borrow.Author.Tests.{eq-eqb, ne_eqb, lt-ltb, le-ltb}
use Rattle.text.specs.declared.TextLocation.{TextLocation}
use Rattle.text.specs.Place.{byte_of, start, past}
use Rattle.text.proofs.PlaceLaws.{start-sound, foreign-not}
use Rattle.text.specs.Rest.{Walk, Reach, Sound}
use Rattle.text.proofs.Rest.{reach-inside, walk-sound}
use Rattle.text.specs.Reader.{Result, ok, stop, bad, then, ◌>>=◌}
use Rattle.text.specs.Leaf.{give}
use Rattle.text.specs.Outcome.{outcome}
use Rattle.body.specs.Data.{item, items, trailer}
use Rattle.body.proofs.Data.{items-local}
use Rattle.decoder.specs.declared.XbmStreamDecoder.{XbmStreamDecoder}
use Rattle.decoder.specs.Step.{foreign, called, placed_at, step_of}
use Rattle.grammar.specs.Lang.{◌·◌}
use Rattle.grammar.specs.Grammar.{Mask, Define, Side, Header, Data}
use Rattle.grammar.proofs.Bind.{past-append, past-byte, move}
use Rattle.grammar.proofs.Fits.{Any}
use Rattle.grammar.proofs.Exact.{start-rest, data-fits}
use Rattle.claims.specs.Terms.{W}
use Rattle.claims.proofs.Cuts.{walk-past}
use Rattle.claims.proofs.Mismatch.{apart}
use Rattle.claims.specs.Steps.{calls, size_of, decoder_of}

-- ---- decoders that are not foreign

-- a decoder is not foreign exactly if its sides are not zero, its position is within the picture and its place is sound and within the text
pub record Native (t : List ℕ) (d : XbmStreamDecoder) : Type 0 where
  pub wide : d.width ≡ 0 → ⊥
  pub high : d.height ≡ 0 → ⊥
  pub position : d.current_position ≤ size_of d
  pub inside : byte_of d.location ≤ length t
  pub place : Sound d.location

pub not-foreign : (t : List ℕ) (d : XbmStreamDecoder) → Native t d → foreign t d ≡ false
unfolding foreign
not-foreign t d h =
    rw (ne_eqb d.width 0 h.wide, ne_eqb d.height 0 h.high, le-ltb (size_of d) d.current_position h.position, foreign-not t d.location h.inside h.place)

-- ---- one call

module _ (t : List ℕ) (d : XbmStreamDecoder) (h : Native t d) where
  pub next-answer : d.current_position < size_of d → (step_of t d).answer ≡ outcome (λ b. some b) (item (eqb d.current_position 0) t d.location)
  unfolding step_of called ◌>>=◌ give
  next-answer l = rw (not-foreign t d h, lt-ltb d.current_position (size_of d) l) (go (item (eqb d.current_position 0) t d.location))
    where
      go : (r : Result ℕ) → outcome (λ b. b) (then r (λ b e. ok (some b) e)) ≡ outcome (λ b. some b) r
      go (ok b e) = refl
      go (stop c e) = refl
      go (bad c e) = refl

  pub next-decoder : d.current_position < size_of d → (b : ℕ) (m : TextLocation) → item (eqb d.current_position 0) t d.location ≡ ok b m → (step_of t d).decoder ≡ placed_at d (d.current_position + 1) m
  unfolding step_of called ◌>>=◌ give
  next-decoder l b m q = rw (not-foreign t d h, lt-ltb d.current_position (size_of d) l, q)

  pub last-answer : d.current_position ≡ size_of d → (step_of t d).answer ≡ outcome (λ u. none) (trailer t d.location)
  unfolding step_of called ◌>>=◌ give
  last-answer e = rw (not-foreign t d h, le-ltb d.current_position (size_of d) (omega arith)) (go (trailer t d.location))
    where
      go : (r : Result (Unit {0})) → outcome (λ (b : Option ℕ). b) (then r (λ b e. ok none e)) ≡ outcome (λ u. none) r
      go (ok b e) = refl
      go (stop c e) = refl
      go (bad c e) = refl

-- ---- several calls

module _ (t : List ℕ) (d : XbmStreamDecoder) (h : Native t d) where
  -- a decoder placed where a run of data bytes ends is not foreign
  pub still-native : (k : ℕ) (l : List ℕ) (m : TextLocation) → k ≤ size_of d → items k true t d.location ≡ ok l m → Native t (placed_at d k m)
  still-native k l m hk q =
      let w : Reach t d.location m = rw q at ((items-local k true).reach t d.location) in
      record { wide = h.wide; high = h.high; position = hk; inside = reach-inside t d.location w h.inside; place = walk-sound w h.place }

  -- after k data bytes the decoder has spent k, and stands where the run of k ends
  pub calls-stand : (k : ℕ) (l : List ℕ) (m : TextLocation) → d.current_position ≡ 0 → k ≤ size_of d → items k true t d.location ≡ ok l m → calls k t d ≡ placed_at d k m
  unfolding calls items give
  calls-stand zero l m z hk q = let y : d.location ≡ m = cc in sym (ap (placed_at d 0) (sym y) ∙ ap (λ (n : ℕ). placed_at d n d.location) (sym z))
  calls-stand (suc k) l m z hk q =
      let (a, n, b, p, s) = apart k true (eqb k 0) t d.location l m (λ e. eq-eqb k 0 e) (λ e. ne_eqb k 0 (λ w. omega arith)) q in
      ap (λ (x : XbmStreamDecoder). (step_of t x).decoder) (calls-stand k a n z (omega arith) p)
      ∙ next-decoder t (placed_at d k n) (still-native k a n (omega arith) p) hk b m s
      ∙ ap (λ (x : ℕ). placed_at d x m) (add-one k)

-- ---- from a header on

-- no side of a header is zero
sided : (lim : ℕ) (m : Mask) (u : List ℕ) → Header lim m u → (0 < m.width) × (0 < m.height)
unfolding Header Define Side ◌·◌
sided lim m u (a, b, q0, star, (c, d, q1, (x1, y1, p1, h1, (x2, y2, p2, h2, (x3, y3, p3, h3, (x4, y4, p4, h4, (x5, y5, p5, h5, l5))))), (f, g, q2, (z1, w1, r1, k1, (z2, w2, r2, k2, (z3, w3, r3, k3, (z4, w4, r4, k4, (z5, w5, r5, k5, l6))))), l7))) = (h5.1, k5.1)

begun-native : (lim : ℕ) (t u v : List ℕ) (m : Mask) → t ≡ u ++ v → Header lim m u → Native t (decoder_of m (past start u))
begun-native lim t u v m q k =
    let (a, b) = sided lim m u k in
    let w : Walk (u ++ v) start (past start u) = walk-past u v start in
    let s : Sound (past start u) = walk-sound w start-sound in
    record { wide = λ e. omega arith; high = λ e. omega arith; position = omega arith; inside = omega (arith, past-byte start u, ap length q, length-append u v); place = s }

-- a text that begins with a header and k data bytes, l
module _ (lim : ℕ) (t : List ℕ) (m : Mask) (u z v : List ℕ) (l : List ℕ) (q : t ≡ u ++ (z ++ v)) (hu : Header lim m u) (hz : Data l z) (few : length l ≤ W m * m.height) where
  read-so : items (length l) true t (past start u) ≡ ok l (past (past start u) z)
  unfolding Any
  read-so = (data-fits (length l) l).from t (past start u) z v refl (move u (z ++ v) t start (start-rest t ∙ q)) hz tt

  pub called-so : calls (length l) t (decoder_of m (past start u)) ≡ placed_at (decoder_of m (past start u)) (length l) (past start (u ++ z))
  called-so =
      calls-stand t (decoder_of m (past start u)) (begun-native lim t u (z ++ v) m q hu) (length l) l (past (past start u) z) refl few read-so
      ∙ ap (placed_at (decoder_of m (past start u)) (length l)) (sym (past-append start u z))

  fine : Native t (placed_at (decoder_of m (past start u)) (length l) (past start (u ++ z)))
  fine = rw (past-append start u z) (still-native t (decoder_of m (past start u)) (begun-native lim t u (z ++ v) m q hu) (length l) l (past (past start u) z) few read-so)

  pub next-so : length l < W m * m.height → (step_of t (calls (length l) t (decoder_of m (past start u)))).answer ≡ outcome (λ b. some b) (item (eqb (length l) 0) t (past start (u ++ z)))
  next-so h = ap (λ (x : XbmStreamDecoder). (step_of t x).answer) called-so ∙ next-answer t (placed_at (decoder_of m (past start u)) (length l) (past start (u ++ z))) fine h

  pub last-so : length l ≡ W m * m.height → (step_of t (calls (length l) t (decoder_of m (past start u)))).answer ≡ outcome (λ x. none) (trailer t (past start (u ++ z)))
  last-so h = ap (λ (x : XbmStreamDecoder). (step_of t x).answer) called-so ∙ last-answer t (placed_at (decoder_of m (past start u)) (length l) (past start (u ++ z))) fine h
