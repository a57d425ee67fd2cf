-- Lines that are skipped: a line's rest at once, and the lines before the first define line.
use Prim.Native.Nat.{ℕ, ◌+◌, ◌-◌, ◌*◌, ◌^◌, ◌<◌, ◌≤◌}
use native.Mathlib.Omega.{arith}
use borrow.Author.Tests.{eq-eqb, ne_eqb, lt-ltb, le-ltb}
use mathlib.Core.Path.{◌≡◌, refl, ◌∙◌}
use mathlib.Core.List.{List, [], ◌∷◌}
use mathlib.Core.Bool.{true, false}
use lib.ListN.{length, drop, length-drop}
use lib.Dec.{eqb, ltb}
use Rattle.std.specs.Prelude.{Option as Found, Some, None}
use Rattle.text.specs.declared.TextLocation.{TextLocation}
use Rattle.text.specs.Place.{pick, rest, after, past, byte_of, has_left, along_line, past_line, peeked_at}
use Rattle.text.specs.Rest.{newlines}
use Rattle.text.proofs.Rest.{after-rest}
use Rattle.text.proofs.PlaceLaws.{left-inside, left-rest, left-none, along-past, line-past}
use Rattle.text.proofs.Laws.{end_rest, next-rest, next-at}
use Rattle.text.specs.Reader.{Grows, Result, ok, stop, then, ◌>>=◌}
use Rattle.text.specs.Leaf.{one, run}
use Rattle.lexical.specs.Lexical.{byte, skip, leading}
use Rattle.lexical.proofs.Lexical.{firms}
use Rattle.leading.specs.Line.{line_of, in_line, line_rest}

-- ---- the rest of a line, by what remains

module _ (c : ℕ) (t : List ℕ) (i : TextLocation) where
  line-empty : rest t i ≡ [] → line_rest c t i ≡ stop c i
  unfolding line_rest skip run byte one ◌>>=◌
  line-empty e = rw (e, e)

  line-step : (b : ℕ) {l : List ℕ} → rest t i ≡ b ∷ l → line_rest c t i ≡ pick (eqb b 10) (ok tt (after b i)) (line_rest c t (after b i))
  unfolding line_rest skip run byte one in_line ◌>>=◌
  line-step b e = grind (arith, e, after-rest t i e)

-- what reading the rest of a line gives, of what remains
abbrev line_from : ℕ → TextLocation → List ℕ → Result (Unit {0})
line_from c i l = pick (ltb (length (line_of l)) (length l)) (ok tt (after 10 (past i (line_of l)))) (stop c (past i (line_of l)))

line_at : (c : ℕ) (t l : List ℕ) (i : TextLocation) → rest t i ≡ l → line_rest c t i ≡ line_from c i l
line_at c t [] i e = line-empty c t i e
line_at c t (b ∷ l) i e = grind (arith, line-step c t i b e, line_at c t l (after b i) (after-rest t i e))

-- the end of a line is within the text
line-short : (l : List ℕ) → length (line_of l) ≤ length l
line-short [] = omega arith
line-short (b ∷ l) = grind (arith, line-short l)

line_plain : (l : List ℕ) → newlines (line_of l) ≡ 0
line_plain [] = refl
line_plain (b ∷ l) = grind (arith, line_plain l)

-- ---- the rest of a line, by the tests and sums of the code

module _ (c : ℕ) (t : List ℕ) (i : TextLocation) where
  pub line_none : has_left t i 1 ≡ false → line_rest c t i ≡ stop c i
  line_none h = line_at c t [] i (left-none t i h)

  abbrev on : List ℕ
  on = drop (byte_of i) t

  line_left : has_left t i 1 ≡ true → length t * 1 < 2 ^ 63
      → line_rest c t i ≡ pick (ltb (length (line_of on)) (length on)) (ok tt (past_line i (length (line_of on)))) (stop c (along_line i (length (line_of on))))
  line_left h l =
      let k = left-inside t i 1 h in
      grind (arith, line_at c t on i (left-rest t i 1 h), line-past i (line_of on) k.1 (line_plain on), along-past i (line_of on) k.1 (line_plain on), line-short on, length-drop (byte_of i) t)

  module _ (h : has_left t i 1 ≡ true) (l : length t * 1 < 2 ^ 63) {e : ℕ} (k : e ≡ byte_of i + length (line_of on)) where
    size : e - byte_of i ≡ length (line_of on)
    size = omega (arith, k)

    pub line_ends : e < length t → line_rest c t i ≡ ok tt (past_line i (e - byte_of i))
    line_ends g = rw (size) (line_left h l ∙ rw (lt-ltb (length (line_of on)) (length on) (omega (arith, k, length-drop (byte_of i) t))))

    pub line_breaks : length t ≤ e → line_rest c t i ≡ stop c (along_line i (e - byte_of i))
    line_breaks g = rw (size) (line_left h l ∙ rw (le-ltb (length (line_of on)) (length on) (omega (arith, k, length-drop (byte_of i) t))))

pub ruleset line_laws = (line_none, line_ends, line_breaks)

-- ---- lines before the first define line

-- inside a line: its rest, and then lines again
lead-line : (c : ℕ) (t l : List ℕ) (i : TextLocation) → rest t i ≡ l → leading c false t i ≡ then (line_rest c t i) (λ a e. leading c true t e)
unfolding leading run
lead-line c t [] i e = rw (e, line-empty c t i e)
lead-line c t (b ∷ l) i e = grind (arith, e, line-step c t i b e, lead-line c t l (after b i) (after-rest t i e), after-rest t i e)

-- a line that is skipped takes a byte
line-grows : (c : ℕ) → Grows (line_rest c)
unfolding line_rest
line-grows c = search firms

-- the lines, by the byte that is next
module _ (c : ℕ) (t : List ℕ) (i : TextLocation) {m : Found ℕ} (e : m ≡ peeked_at t i) where
  pub lines_none : m ≡ None → leading c true t i ≡ stop c i
  unfolding leading run
  lines_none h = rw (end_rest t i e h)

  module _ {b : ℕ} (h : m ≡ Some b) where
    pub lines_found : b ≡ 35 → leading c true t i ≡ ok tt i
    unfolding leading run
    lines_found k = rw (next-rest t i e h, eq-eqb b 35 k)

    pub lines_on : (b ≡ 35 → ⊥) → leading c true t i ≡ then (line_rest c t i) (λ a e. leading c true t e)
    unfolding leading run
    lines_on k = let r = next-rest t i e h in rw (r, ne_eqb b 35 k) (rw r at (lead-line c t (b ∷ rest t (after b i)) i r))

    pub lines_less : {q : TextLocation} → ok tt q ≡ line_rest c t i → length t - byte_of q < length t - byte_of i
    lines_less {q} g =
        let k : byte_of i < byte_of q = rw (← g) at ((line-grows c).grows t i) tt in
        omega (arith, (next-at t i e h).0)

pub ruleset lines_laws = (lines_none, lines_found, lines_on, lines_less)
