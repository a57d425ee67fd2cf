-- What the ways to build and to judge a place are in terms of `after`, `past` and `rest`: a section each. Assumes nothing.
use Rattle.std.specs.Prelude.{◌≡◌, ℕ, suc, ◌+◌, ◌-◌, ◌%◌, ◌^◌, ◌<◌, ◌≤◌, min, Bool, true, false, ◌↔◌, List, [], ◌∷◌, length, drop, ◌==◌, ◌≢◌, nat_le, nat_lt}
use Rattle.std.proofs.Common.{le_of_lt, sym, ap, ◌∙◌, length-drop, drop_of_length-le}
use native.Mathlib.Omega.{arith}
use Rattle.std.proofs.Math.Path.{refl}
use borrow.Author.Tests.{le-leb, lt-leb, leb-true, leb-false, lt-ltb, le-ltb, ltb-true, ltb-false, eq-eqb, ne_eqb, eqb-true}
use Rattle.text.specs.declared.TextLocation.{TextLocation}
use Rattle.text.specs.Place.{pick, byte_of, place_of, start, nowhere, after, is_foreign, has_left, along_line, past_line, past_byte, rest, past}
use Rattle.text.specs.Rest.{Walk, here, on, Reach, Sound, newlines}
use Rattle.text.proofs.Rest.{nil-cons, reach-inside, walk-sound}

pub pick_same {ℓ} : {A : Type ℓ} (t : Bool) (a : A) → pick t a a ≡ a
pick_same true a = refl
pick_same false a = refl

-- ---- the start, and no place

-- from the start on the whole text remains
pub start-rest : (t : List ℕ) → rest t start ≡ t
unfolding rest
start-rest t = refl

pub start-sound : Sound start
start-sound = record { start = omega arith; line = omega arith }

line_kept : (d : Bool) (l : ℕ) → 1 ≤ l → 1 ≤ pick d (min (l + 1) 18446744073709551615) l
line_kept true l h = omega arith
line_kept false l h = omega arith

walk-lined : {l : List ℕ} {p q : TextLocation} → Walk l p q → 1 ≤ p.line.0 → 1 ≤ q.line.0
unfolding after
walk-lined here h = h
walk-lined {l = b ∷ l} {p} (on w) h = walk-lined w (line_kept (b == 10) p.line.0 h)

-- no text has `nowhere`: its lines are counted from 1
pub nowhere-unreached : (t : List ℕ) → Reach t start nowhere → ⊥
nowhere-unreached t w = omega (arith, walk-lined w (omega arith))

-- ---- foreign places

-- a place is not foreign exactly if it is sound and within the text
module _ (t : List ℕ) (p : TextLocation) where
  pub foreign-not : byte_of p ≤ length t → Sound p → is_foreign t p ≡ false
  foreign-not h s = rw (le-ltb _ _ h, eq-eqb _ _ s.start) (le-ltb _ _ s.line)

  pub foreign-inside : is_foreign t p ≡ false → (byte_of p ≤ length t) × Sound p
  foreign-inside = go (nat_lt (length t) p.byte.0) (p.start.0 + p.column.0 == p.byte.0) (nat_lt (p.byte.0 + 1) p.line.0) refl refl refl
    where
      go : (x y z : Bool) → nat_lt (length t) p.byte.0 ≡ x → (p.start.0 + p.column.0 == p.byte.0) ≡ y → nat_lt (p.byte.0 + 1) p.line.0 ≡ z
          → pick x true (pick y z true) ≡ false → (byte_of p ≤ length t) × Sound p
      go true y z hx hy hz e = let k : ◌≡◌ {A = ℕ} 0 1 = cc in absurd (omega arith)
      go false false z hx hy hz e = let k : ◌≡◌ {A = ℕ} 0 1 = cc in absurd (omega arith)
      go false true true hx hy hz e = let k : ◌≡◌ {A = ℕ} 0 1 = cc in absurd (omega arith)
      go false true false hx hy hz e = (ltb-false _ _ hx, record { start = eqb-true _ _ hy; line = ltb-false _ _ hz })

  -- the ways to be foreign
  pub foreign-byte : length t < p.byte.0 → is_foreign t p ≡ true
  foreign-byte h = rw (lt-ltb _ _ h)

  not-adding : (p.start.0 + p.column.0 ≢ p.byte.0) → is_foreign t p ≡ true
  not-adding h = rw (ne_eqb (p.start.0 + p.column.0) p.byte.0 h, pick_same)

  pub foreign-column : p.byte.0 < p.column.0 → is_foreign t p ≡ true
  foreign-column h = not-adding (λ e. omega arith)

  pub foreign-start : (p.start.0 ≢ p.byte.0 - p.column.0) → is_foreign t p ≡ true
  foreign-start h = not-adding (λ e. h (omega arith))

  pub foreign-line : p.byte.0 + 1 < p.line.0 → is_foreign t p ≡ true
  foreign-line h = rw (lt-ltb (p.byte.0 + 1) p.line.0 h, pick_same, pick_same)

  -- nothing remains at a foreign place
  pub foreign-rest : is_foreign t p ≡ true → rest t p ≡ []
  unfolding rest
  foreign-rest = go (nat_lt (length t) p.byte.0) (p.start.0 + p.column.0 == p.byte.0) (nat_lt (p.byte.0 + 1) p.line.0) refl refl
    where
      go : (x y z : Bool) → nat_lt (length t) p.byte.0 ≡ x → nat_lt (p.byte.0 + 1) p.line.0 ≡ z
          → pick x true (pick y z true) ≡ true
          → pick y (pick (nat_le p.line.0 (p.byte.0 + 1)) (drop p.byte.0 t) []) [] ≡ []
      go true y z hx hz e = simp (drop_of_length-le t (le_of_lt (ltb-true (length t) p.byte.0 hx)), pick_same)
      go false false z hx hz e = refl
      go false true true hx hz e = rw (lt-leb p.line.0 (p.byte.0 + 1) (ltb-true _ _ hz))
      go false true false hx hz e = let k : ◌≡◌ {A = ℕ} 0 1 = cc in absurd (omega arith)

  -- where something remains the place is sound
  pub rest-sound : {b : ℕ} {l : List ℕ} → rest t p ≡ b ∷ l → Sound p
  unfolding rest
  rest-sound = go (p.start.0 + p.column.0 == p.byte.0) (nat_le p.line.0 (p.byte.0 + 1)) refl refl
    where
      go : (x y : Bool) → (p.start.0 + p.column.0 == p.byte.0) ≡ x → nat_le p.line.0 (p.byte.0 + 1) ≡ y
          → {b : ℕ} {l : List ℕ} → pick x (pick y (drop p.byte.0 t) []) [] ≡ b ∷ l → Sound p
      go true true hx hy e = record { start = eqb-true _ _ hx; line = leb-true _ _ hy }
      go true false hx hy e = absurd (nil-cons e)
      go false y hx hy e = absurd (nil-cons e)

  -- at a sound place the text from its byte on remains
  pub sound-rest : Sound p → rest t p ≡ drop (byte_of p) t
  unfolding rest
  sound-rest s = rw (eq-eqb _ _ s.start, le-leb _ _ s.line)

  -- so where something remains the byte is in the text
  pub rest-inside : {b : ℕ} {l : List ℕ} → rest t p ≡ b ∷ l → byte_of p < length t
  rest-inside e = omega (arith, length-drop (byte_of p) t, ap length (sym (sound-rest (rest-sound e)) ∙ e))

-- a place that is reached, if only by one byte, is sound
pub reach-sound : (t : List ℕ) (p : TextLocation) {q : TextLocation} → Reach t p q → byte_of p < byte_of q → Sound q
reach-sound t = go
  where
    from : (l : List ℕ) (p : TextLocation) {q : TextLocation} → rest t p ≡ l → Walk l p q → byte_of p < byte_of q → Sound q
    from [] p e here h = absurd (omega arith)
    from (b ∷ l) p e w h = walk-sound w (rest-sound t p e)

    go : (p : TextLocation) {q : TextLocation} → Reach t p q → byte_of p < byte_of q → Sound q
    go p = from (rest t p) p refl

-- no place that is reached from the start is foreign
pub foreign-unreached : (t : List ℕ) (p : TextLocation) → Reach t start p → is_foreign t p ≡ false
foreign-unreached t p w = foreign-not t p (reach-inside t start w (omega arith)) (walk-sound w start-sound)

-- ---- a sound place with n bytes left

module _ (t : List ℕ) (p : TextLocation) (n : ℕ) where
  pub left : byte_of p + n ≤ length t → Sound p → has_left t p n ≡ true
  left h s = rw (foreign-not t p (omega arith) s) (le-leb _ _ h)

  pub left-inside : has_left t p n ≡ true → (byte_of p + n ≤ length t) × Sound p
  left-inside = go (is_foreign t p) refl
    where
      go : (x : Bool) → is_foreign t p ≡ x → pick x false (nat_le (byte_of p + n) (length t)) ≡ true → (byte_of p + n ≤ length t) × Sound p
      go true f e = let k : ◌≡◌ {A = ℕ} 0 1 = cc in absurd (omega arith)
      go false f e = (leb-true _ _ e, (foreign-inside t p f).1)

  pub left-rest : has_left t p n ≡ true → rest t p ≡ drop (byte_of p) t
  left-rest e = sound-rest t p (left-inside e).1

  pub left-length : has_left t p n ≡ true → n ≤ length (rest t p)
  left-length e = let (h, s) = left-inside e in rw (sound-rest t p s, length-drop (byte_of p) t) (omega arith)

  pub left-short : 0 < n → has_left t p n ≡ false → length (rest t p) < n
  left-short h = go (is_foreign t p) refl
    where
      go : (x : Bool) → is_foreign t p ≡ x → pick x false (nat_le (byte_of p + n) (length t)) ≡ false → length (rest t p) < n
      go true f e = rw (foreign-rest t p f) h
      go false f e = rw (sound-rest t p (foreign-inside t p f).1, length-drop (byte_of p) t) (omega (arith, leb-false (byte_of p + n) (length t) e))

  -- n bytes or more remain exactly where n are left
  pub left-exactly : 0 < n → (has_left t p n ≡ true) ↔ (n ≤ length (rest t p))
  left-exactly h = (left-length, λ k. go (has_left t p n) refl k)
    where
      go : (x : Bool) → has_left t p n ≡ x → n ≤ length (rest t p) → has_left t p n ≡ true
      go true e k = e
      go false e k = absurd (omega (arith, left-short h e))

pub left-none : (t : List ℕ) (p : TextLocation) → has_left t p 1 ≡ false → rest t p ≡ []
left-none t p e = go (rest t p) (left-short t p 1 (omega arith) e)
  where
    go : (l : List ℕ) → length l < 1 → l ≡ []
    go [] h = refl
    go (b ∷ l) h = absurd (omega arith)

-- ---- n bytes on within a line, and past its newline

-- bytes without a newline move byte and column alone
past-plain : (w : List ℕ) (p : TextLocation) → newlines w ≡ 0 → past p w ≡ place_of (byte_of p + length w) p.line.0 (p.column.0 + length w) p.start.0
unfolding after
past-plain [] p h = let z : byte_of p + 0 ≡ byte_of p = omega arith in let y : p.column.0 + 0 ≡ p.column.0 = omega arith in rw (z, y)
past-plain (b ∷ w) p h = go (b == 10) refl h (past-plain w (after b p))
  where
    go : (x : Bool) → (b == 10) ≡ x → pick x 1 0 + newlines w ≡ 0
        → (newlines w ≡ 0 → past (after b p) w ≡ place_of (byte_of (after b p) + length w) (after b p).line.0 ((after b p).column.0 + length w) (after b p).start.0)
        → past (after b p) w ≡ place_of (byte_of p + suc (length w)) p.line.0 (p.column.0 + suc (length w)) p.start.0
    go true e k ih = absurd (omega arith)
    go false e k ih =
        let z : byte_of p + 1 + length w ≡ byte_of p + suc (length w) = omega arith in
        let y : p.column.0 + 1 + length w ≡ p.column.0 + suc (length w) = omega arith in
        ih (omega arith) ∙ rw (e, z, y)

module _ (p : TextLocation) (w : List ℕ) (s : Sound p) (h : newlines w ≡ 0) where
  pub along-past : byte_of p + length w < 2 ^ 64 → along_line p (length w) ≡ past p w
  along-past k =
      let z : (byte_of p + length w) % 2 ^ 64 ≡ byte_of p + length w = omega arith in
      let y : (p.column.0 + length w) % 2 ^ 64 ≡ p.column.0 + length w = omega (arith, s.start) in
      rw (z, y) (sym (past-plain w p h))

  pub line-past : byte_of p + length w + 2 < 2 ^ 64 → past_line p (length w) ≡ after 10 (past p w)
  unfolding after
  line-past k =
      let z : ((byte_of p + length w) % 2 ^ 64 + 1) % 2 ^ 64 ≡ byte_of p + length w + 1 = omega arith in
      let y : (p.line.0 + 1) % 2 ^ 64 ≡ p.line.0 + 1 = omega (arith, s.line) in
      let x : min (p.line.0 + 1) 18446744073709551615 ≡ p.line.0 + 1 = omega (arith, s.line) in
      rw (z, y, past-plain w p h, x)

-- one byte on
module _ (p : TextLocation) (s : Sound p) where
  pub along-after : (b : ℕ) → (b == 10) ≡ false → byte_of p + 1 < 2 ^ 64 → along_line p 1 ≡ after b p
  along-after b h = along-past p (b ∷ []) s (rw h)

  pub line_after : byte_of p + 2 < 2 ^ 64 → past_line p 0 ≡ after 10 p
  line_after k = line-past p [] s refl (omega arith)

  pub byte-after : (b : ℕ) → byte_of p + 2 < 2 ^ 64 → past_byte p b ≡ after b p
  byte-after b k = go (b == 10) refl
    where
      go : (x : Bool) → (b == 10) ≡ x → pick x (past_line p 0) (along_line p 1) ≡ after b p
      go true e = line_after k ∙ ap (λ (c : ℕ). after c p) (sym (eqb-true b 10 e))
      go false e = along-after b e (omega arith)
