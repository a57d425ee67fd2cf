-- The refusals of the width line and the height line, two-sided: 1, 111 to 114, 21 and 2, 121 to 124, 22.
use Rattle.std.proofs.Math.Path.{◌≡◌}
use Rattle.std.specs.Prelude.{refl, ◌↔◌, ℕ, zero, suc, ◌+◌, ◌-◌, ◌*◌, ◌≤◌, Bool, true, false, not, List, [], ◌∷◌, ◌++◌, length, eqb, Err}
use Rattle.std.proofs.Common.{sym, ap, ◌∙◌, eq-eqb}
use native.Mathlib.Omega.{arith}
use Rattle.std.proofs.Math.Option.{none, some}
use Rattle.text.specs.declared.TextLocation.{TextLocation}
use Rattle.text.specs.Ascii.{ascii}
use Rattle.text.specs.Place.{start}
use Rattle.text.specs.Reader.{Result, ok, stop, bad, then, Reader, ◌>>=◌, ◌>>◌, Mild}
use Rattle.text.specs.Leaf.{give, need}
use Rattle.text.specs.Outcome.{Outcome, refused, unplaced, outcome}
use Rattle.lexical.specs.Lexical.{leading}
use Rattle.lexical.proofs.Lexical.{locals, milds}
use Rattle.integer.specs.declared.Fault.{Fault}
use Rattle.integer.specs.declared.Fault.TheVariants.{Empty, LeadingZero, NotDigit, OutOfRange}
use Rattle.integer.specs.Decimal.{parse_u32, fault_number, fault_in}
use Rattle.lines.specs.Lines.{unsigned, signed, side, positive, width_line, array_line}
use Rattle.lines.proofs.Lines.{line_laws, element-local, element-mild}
use Rattle.header.specs.Header.{Head, rest, header}
use Rattle.rows.specs.Rows.{whole}
use Rattle.image.specs.Reading.{picture, reading}
use Rattle.grammar.specs.Lang.{Lang, Word, ◌·◌, All, Star}
use Rattle.grammar.specs.Grammar.{Mask, solid, Decimal, Side, Skipped, Define, Symbol}
use Rattle.grammar.proofs.Tests.{number, value-up, number→decimal, decimal→number, positive_ok}
use Rattle.grammar.proofs.Fits.{Any, Fits, fit-run}
use Rattle.grammar.proofs.Pieces.{leading-fits}
use Rattle.grammar.proofs.Lines.{width_fits}
use Rattle.faults.specs.Terms.{Says}
use Rattle.claims.specs.Terms.{Begun}
use Rattle.claims.proofs.Numbers.{no_number, in_header, four, Numbered, numbers, unsigned-numbered, signed-numbered, width-numbered, rest-numbered, whole-numbered, placed-number, untold, thirty-one}
use Rattle.refusals.specs.Terms.{NoWidthLine, BadWidth, ZeroWidth, NoHeightLine, BadHeight, ZeroHeight, Token, Front, Second, Placed}
use Rattle.refusals.proofs.Stages.{both_ways, assoc, Quiet, quiet-mild, quiet_bind, quiet-need, quiet-fork, need-none, need-told, need-some, stage-stop, stage-bad, after_stop, after-bad, begun}
use Rattle.refusals.proofs.Integers.{side-fault}
use Rattle.refusals.proofs.Lines.{known, known-fits, front, front_fits, widths, raw, define-begins, line-is, wide, next, header_is}

-- ---- the numbers that a line cannot have

pub array-mild : (name : List ℕ) → Mild (array_line 5 name)
unfolding array_line
array-mild name = search (milds, locals, line_laws, element-local, element-mild) depth 30 fits 3000

-- d is none of an integer's four numbers
abbrev pub other : ℕ → ℕ → Bool
other d c = not (eqb c d)

numbered-quiet : {A : Type 0} {p : Reader A} {lo hi : ℕ} {d : ℕ} → Numbered lo hi (other d) p → Quiet d p
numbered-quiet {A} {p} {lo} {hi} {d} n = record { quiet = λ t i q k. untold n t i d q (ap not (eq-eqb d d refl)) k }

module _ {d : ℕ} (c : ℕ) (w : List ℕ) (s : four (other d) c ≡ true) where
  pub quiet-unsigned : Quiet d (unsigned c w)
  quiet-unsigned = numbered-quiet (unsigned-numbered {lo = 1} {hi = 0} c w s)

  pub quiet-signed : Quiet d (signed c w)
  quiet-signed = numbered-quiet (signed-numbered {lo = 1} {hi = 0} c w s)

pub ruleset quiets = (quiet_bind, quiet-unsigned, quiet-signed, quiet-need, quiet-fork, quiet-mild, milds, locals, line_laws, array-mild)

module _ {d : ℕ} where
  pub width-quiet : (limit : ℕ) → four (other d) 110 ≡ true → eqb 21 d ≡ false → Quiet d (width_line limit)
  unfolding width_line
  width-quiet limit x y = search quiets depth 40 fits 10000

  pub rest-quiet : (name : List ℕ) (w h : ℕ) → four (other d) 130 ≡ true → four (other d) 140 ≡ true → Quiet d (rest name w h)
  unfolding rest
  rest-quiet name w h x y = search quiets depth 60 fits 20000

-- ---- what is told of a header's refusal

module _ (text name pixels : List ℕ) where
  abbrev told : Result (Head × List ℕ) → Outcome Head
  told = outcome (λ (p : Head × List ℕ). p.0)

  pub told-stop : (c : ℕ) → c ≤ 5 → Placed (reading text name pixels).answer c ↔ ((q : TextLocation) × (header (length name) text start ≡ stop c q))
  unfolding reading picture ◌>>=◌ give
  told-stop c l = go (header (length name) text start)
    where
      after : (h : Head) (e : TextLocation) (r : Result (List ℕ)) → whole h.width h.height (length pixels) text e ≡ r → (p : TextLocation) → told (then r (λ l e. ok (h, l) e)) ≡ refused c p → ⊥
      after h e (ok a m) q p x = let z : ◌≡◌ {A = ℕ} 0 1 = cc in omega arith
      after h e (bad d m) q p x = let z : ◌≡◌ {A = ℕ} 0 1 = cc in omega arith
      after h e (stop d m) q p x = let z : d ≡ c = cc in omega (arith, placed-number (whole-numbered h.width h.height (length pixels)) text e d m q)

      go : (r : Result Head) → ((p : TextLocation) × (told (then r (λ h e. then (whole h.width h.height (length pixels) text e) (λ l e. ok (h, l) e))) ≡ refused c p)) ↔ ((q : TextLocation) × (r ≡ stop c q))
      go (ok h e) = ((λ (p, x). absurd (after h e (whole h.width h.height (length pixels) text e) refl p x)), λ (q, x). (let z : ◌≡◌ {A = ℕ} 0 1 = cc in absurd (omega arith)))
      go (stop d e) = ((λ (p, x). (p, cc)), λ (q, x). (q, cc))
      go (bad d e) = ((λ (p, x). (let z : ◌≡◌ {A = ℕ} 0 1 = cc in absurd (omega arith))), λ (q, x). (let z : ◌≡◌ {A = ℕ} 0 1 = cc in absurd (omega arith)))

  pub told-bad : (c : ℕ) → (c ≡ 31 → ⊥) → ((reading text name pixels).answer ≡ unplaced c) ↔ ((q : TextLocation) × (header (length name) text start ≡ bad c q))
  unfolding reading picture ◌>>=◌ give
  told-bad c l = go (header (length name) text start)
    where
      after : (h : Head) (e : TextLocation) (r : Result (List ℕ)) → whole h.width h.height (length pixels) text e ≡ r → told (then r (λ l e. ok (h, l) e)) ≡ unplaced c → ⊥
      after h e (ok a m) q x = let z : ◌≡◌ {A = ℕ} 0 1 = cc in omega arith
      after h e (stop d m) q x = let z : ◌≡◌ {A = ℕ} 0 1 = cc in omega arith
      after h e (bad d m) q x = let z : d ≡ c = cc in l (sym z ∙ thirty-one (whole-numbered h.width h.height (length pixels)) text e d m q)

      go : (r : Result Head) → (told (then r (λ h e. then (whole h.width h.height (length pixels) text e) (λ l e. ok (h, l) e))) ≡ unplaced c) ↔ ((q : TextLocation) × (r ≡ bad c q))
      go (ok h e) = ((λ x. absurd (after h e (whole h.width h.height (length pixels) text e) refl x)), λ (q, x). (let z : ◌≡◌ {A = ℕ} 0 1 = cc in absurd (omega arith)))
      go (bad d e) = ((λ x. (e, cc)), λ (q, x). cc)
      go (stop d e) = ((λ x. (let z : ◌≡◌ {A = ℕ} 0 1 = cc in absurd (omega arith))), λ (q, x). (let z : ◌≡◌ {A = ℕ} 0 1 = cc in absurd (omega arith)))

-- ---- a line's integer apart

define-out : (S N : Lang) (u : List ℕ) → Define S N u → (v : List ℕ) × N v × Define S (Word v) u
unfolding Define ◌·◌ Word
define-out S N u (a, b, q, x, (c, d, r, y, (e, f, s, z, (g, h, k, w, (v, l, m, n, o))))) = (v, n, (a, b, q, x, (c, d, r, y, (e, f, s, z, (g, h, k, w, (v, l, m, refl, o))))))

define-in : (S N : Lang) (v u : List ℕ) → Define S (Word v) u → N v → Define S N u
unfolding Define ◌·◌ Word
define-in S N v u (a, b, q, x, (c, d, r, y, (e, f, s, z, (g, h, k, w, (i, l, m, n, o))))) p = (a, b, q, x, (c, d, r, y, (e, f, s, z, (g, h, k, w, (i, l, m, rw n p, o)))))

pub begun-out : (K S N : Lang) (t : List ℕ) → Begun (K · Define S N) t → (v : List ℕ) × N v × Begun (K · Define S (Word v)) t
unfolding ◌·◌
begun-out K S N t (u, r, q, (a, b, o, k, d)) = let (v, n, e) = define-out S N b d in (v, n, (u, r, q, (a, b, o, k, e)))

pub begun-in : (K S N : Lang) (v t : List ℕ) → Begun (K · Define S (Word v)) t → N v → Begun (K · Define S N) t
unfolding ◌·◌
begun-in K S N v t (u, r, q, (a, b, o, k, d)) n = (u, r, q, (a, b, o, k, define-in S N v b d n))

-- ---- what a token is not

none-positive : (v : ℕ) → (positive v ≡ none) ↔ (v ≡ 0)
unfolding positive
none-positive zero = ((λ q. refl), λ q. refl)
none-positive (suc v) = ((λ q. (let z : ◌≡◌ {A = ℕ} 0 1 = cc (q, positive_ok (suc v) (omega arith)) in absurd (omega arith))), λ q. absurd (omega arith))

zero-token : (w : List ℕ) → Decimal 0 w → Token w
unfolding Decimal
zero-token [] d = absurd d
zero-token (x ∷ []) ((a, u), v) = let z : x ≡ 48 = omega (arith, a) in rw z ((refl, tt), omega arith)
zero-token (x ∷ y ∷ w) (n, (a, u), v) = absurd (n (omega (arith, a, value-up (0 * 10 + (x - 48)) (y ∷ w))))

-- ---- the width line

next-quiet : (nw : List ℕ × ℕ) → Quiet 21 (next nw)
next-quiet nw = search (quiets, rest-quiet) depth 40 fits 10000

front-numbered : (limit : ℕ) → Numbered 1 1 no_number (front limit)
unfolding front widths raw
front-numbered limit = search numbers depth 40 fits 10000

pub wide-numbered : (p : List ℕ × List ℕ) → Numbered 2 5 in_header (wide p >>= next)
wide-numbered p = search (numbers, rest-numbered) depth 40 fits 10000

front-quiet : (limit d : ℕ) → Quiet d (front limit)
unfolding front widths raw
front-quiet limit d = search quiets depth 40 fits 10000

module _ (name w : List ℕ) (t : List ℕ) (m : TextLocation) where
  abbrev sized : ℕ → Reader (List ℕ × ℕ)
  sized v = need 21 (positive v) >>= λ n. give (name, n)

  -- its token is no integer of 32 bits; d is none of the later numbers
  wide-bad : (d : ℕ) → eqb 21 d ≡ false → four (other d) 120 ≡ true → eqb 22 d ≡ false → four (other d) 130 ≡ true → four (other d) 140 ≡ true
      → ((q : TextLocation) × ((wide (name, w) >>= next) t m ≡ bad d q)) ↔ ((number w ≡ none) × (110 + fault_in (parse_u32 w) ≡ d))
  wide-bad d a b c x y = rw (assoc (unsigned 110 w) sized next) (need-told (number w) (λ v. sized v >>= next) (110 + fault_in (parse_u32 w)) d t m quiet-d)
    where
      quiet-d : (v : ℕ) → Quiet d (sized v >>= next)
      quiet-d v = search (quiets, rest-quiet) depth 40 fits 10000

  -- 21: it is 0
  wide-21 : ((q : TextLocation) × ((wide (name, w) >>= next) t m ≡ bad 21 q)) ↔ Decimal 0 w
  wide-21 = rw (assoc (unsigned 110 w) sized next) (both_ways (need-some (number w) (λ v. sized v >>= next) (110 + fault_in (parse_u32 w)) 21 t m (λ q. omega arith)) ((λ (v, q, x). there v q x), λ d. (0, decimal→number w 0 d (omega arith), (zero_is 0).1 refl)))
    where
      zero_is : (v : ℕ) → ((q : TextLocation) × ((sized v >>= next) t m ≡ bad 21 q)) ↔ (v ≡ 0)
      zero_is v = rw (assoc (need 21 (positive v)) (λ n. give (name, n)) next) (both_ways (need-none (positive v) (λ n. give (name, n) >>= next) 21 t m (λ n. quiet_bind (search quiets) next-quiet)) (none-positive v))

      there : (v : ℕ) → number w ≡ some v → (q : TextLocation) × ((sized v >>= next) t m ≡ bad 21 q) → Decimal 0 w
      there v q x = let z : v ≡ 0 = (zero_is v).0 x in rw z at (number→decimal w v q).0

module _ (text name pixels : List ℕ) where
  abbrev limit : ℕ
  limit = length name

  abbrev Line : List ℕ × List ℕ → Lang
  Line p = Star Skipped · Define (Symbol limit p.0) (Word p.1)

  pub row-1 : Placed (reading text name pixels).answer 1 ↔ NoWidthLine limit text
  row-1 = both_ways (told-stop text name pixels 1 (omega arith)) (rw (header_is limit) (both_ways (stage-stop (front limit) (λ p. wide p >>= next) (λ p. Token p.1) Line (front_fits limit) 1 (front-numbered limit) text start wide-numbered (λ a b. omega arith)) (
    (λ g s b. (let (v, k, d) = begun-out (Star Skipped) (Symbol limit s) Token text b in let (e, l) = (begun (Line (s, v)) text).1 d in g (s, v) e k l)),
    λ g p e k l. g p.0 (begun-in (Star Skipped) (Symbol limit p.0) Token p.1 text ((begun (Line p) text).0 (e, l)) k),
  )))

  told-front : (d : ℕ) (Q : List ℕ → Type 0) → (d ≡ 31 → ⊥) → ((s w : List ℕ) (m : TextLocation) → ((q : TextLocation) × ((wide (s, w) >>= next) text m ≡ bad d q)) ↔ Q w)
      → ((reading text name pixels).answer ≡ unplaced d) ↔ ((s : List ℕ) × (w : List ℕ) × Begun (Front limit s (Word w)) text × Token w × Q w)
  told-front d Q l k = both_ways (told-bad text name pixels d l) (rw (header_is limit) (both_ways (stage-bad (front limit) (λ p. wide p >>= next) (λ p. Token p.1) Line (front_fits limit) 1 (front-numbered limit) text start d (λ p. Q p.1) (front-quiet limit d) (λ p m. k p.0 p.1 m)) (
    (λ (p, e, x, a, y). (p.0, p.1, (begun (Line p) text).0 (e, a), x, y)),
    λ (s, w, b, x, y). (let (e, a) = (begun (Line (s, w)) text).1 b in ((s, w), e, x, a, y)),
  )))

  pub row-width : (f : Fault) → ((reading text name pixels).answer ≡ unplaced (110 + fault_number f)) ↔ BadWidth limit (Says (Err f)) text
  row-width Empty = told-front 111 (Says (Err Empty)) (λ q. omega arith) (λ s w m. both_ways (wide-bad s w text m 111 refl refl refl refl refl) (side-fault 110 Empty w))
  row-width LeadingZero = told-front 112 (Says (Err LeadingZero)) (λ q. omega arith) (λ s w m. both_ways (wide-bad s w text m 112 refl refl refl refl refl) (side-fault 110 LeadingZero w))
  row-width NotDigit = told-front 113 (Says (Err NotDigit)) (λ q. omega arith) (λ s w m. both_ways (wide-bad s w text m 113 refl refl refl refl refl) (side-fault 110 NotDigit w))
  row-width OutOfRange = told-front 114 (Says (Err OutOfRange)) (λ q. omega arith) (λ s w m. both_ways (wide-bad s w text m 114 refl refl refl refl refl) (side-fault 110 OutOfRange w))

  pub row-21 : ((reading text name pixels).answer ≡ unplaced 21) ↔ ZeroWidth limit text
  row-21 = both_ways (told-front 21 (Decimal 0) (λ q. omega arith) (λ s w m. wide-21 s w text m)) (
    (λ (s, w, b, x, d). (s, begun-in (Star Skipped) (Symbol limit s) (Decimal 0) w text b d)),
    λ (s, b). (let (v, d, c) = begun-out (Star Skipped) (Symbol limit s) (Decimal 0) text b in (s, v, c, zero-token v d, d)),
  )

-- ---- the height line

-- the header up to the width line's end
unfoldable pub first : ℕ → Reader (List ℕ × ℕ)
first limit = leading 1 true >> width_line limit

pub first_fits : (limit : ℕ) (nw : List ℕ × ℕ) → Fits (first limit) nw (Unit {0}) (Front limit nw.0 (Side nw.1)) Any
unfolding first
first_fits limit (name, n) = fit-run leading-fits (define-begins _ _) (λ a. width_fits limit name n)

pub front-name : (limit : ℕ) (name : List ℕ) (N : Lang) (w : List ℕ) → Front limit name N w → All solid name
unfolding Define Symbol ◌·◌
front-name limit name N w (a, b, q, k, (u, v, o, l, (u1, v1, q1, k1, (u2, v2, q2, k2, m)))) = k2.1

pub first-numbered : (limit : ℕ) → Numbered 1 1 in_header (first limit)
unfolding first
first-numbered limit = search (numbers, width-numbered)

-- what is made of the height line's token
abbrev pub high : List ℕ × ℕ → List ℕ → Reader Head
high nw w = side 120 22 w >>= λ h. rest nw.0 nw.1 h

abbrev pub heights : List ℕ → Reader (List ℕ)
heights name = known 2 name (ascii "_height")

next-is : (nw : List ℕ × ℕ) → next nw ≡ (heights nw.0 >>= high nw)
next-is nw = ap (λ (p : Reader ℕ). p >>= λ h. rest nw.0 nw.1 h) (sym (line-is 2 nw.0 (ascii "_height") (side 120 22))) ∙ assoc (heights nw.0) (side 120 22) (rest nw.0 nw.1)

pub header-next : (limit : ℕ) → header limit ≡ (first limit >>= λ nw. heights nw.0 >>= high nw)
unfolding header first
header-next limit = sym (assoc (leading 1 true) (λ a. width_line limit) next) ∙ ap (λ (f : List ℕ × ℕ → Reader Head). (leading 1 true >> width_line limit) >>= f) (λ i nw. next-is nw i)

heights-numbered : (name : List ℕ) → Numbered 2 2 no_number (heights name)
unfolding known raw
heights-numbered name = search numbers depth 40 fits 10000

pub high-numbered : (nw : List ℕ × ℕ) (w : List ℕ) → Numbered 3 5 in_header (high nw w)
high-numbered nw w = search (numbers, rest-numbered)

pub known-quiet : (c d : ℕ) (name z : List ℕ) → Quiet d (known c name z)
unfolding known raw
known-quiet c d name z = search quiets depth 40 fits 10000

first-quiet : (limit : ℕ) {d : ℕ} → four (other d) 110 ≡ true → eqb 21 d ≡ false → Quiet d (first limit)
unfolding first
first-quiet limit a b = search (quiets, width-quiet)

module _ (nw : List ℕ × ℕ) (w : List ℕ) (t : List ℕ) (m : TextLocation) where
  abbrev tall : ℕ → Reader Head
  tall h = rest nw.0 nw.1 h

  sizing : high nw w ≡ (unsigned 120 w >>= λ v. need 22 (positive v) >>= tall)
  sizing = assoc (unsigned 120 w) (λ v. need 22 (positive v)) tall

  high-bad : (d : ℕ) → eqb 22 d ≡ false → four (other d) 130 ≡ true → four (other d) 140 ≡ true → ((q : TextLocation) × (high nw w t m ≡ bad d q)) ↔ ((number w ≡ none) × (120 + fault_in (parse_u32 w) ≡ d))
  high-bad d a b c = rw sizing (need-told (number w) (λ v. need 22 (positive v) >>= tall) (120 + fault_in (parse_u32 w)) d t m quiet-d)
    where
      quiet-d : (v : ℕ) → Quiet d (need 22 (positive v) >>= tall)
      quiet-d v = search (quiets, rest-quiet)

  high-22 : ((q : TextLocation) × (high nw w t m ≡ bad 22 q)) ↔ Decimal 0 w
  high-22 = rw sizing (both_ways (need-some (number w) (λ v. need 22 (positive v) >>= tall) (120 + fault_in (parse_u32 w)) 22 t m (λ q. omega arith)) ((λ (v, q, x). there v q x), λ d. (0, decimal→number w 0 d (omega arith), (zero_is 0).1 refl)))
    where
      zero_is : (v : ℕ) → ((q : TextLocation) × ((need 22 (positive v) >>= tall) t m ≡ bad 22 q)) ↔ (v ≡ 0)
      zero_is v = both_ways (need-none (positive v) tall 22 t m (λ h. rest-quiet nw.0 nw.1 h refl refl)) (none-positive v)

      there : (v : ℕ) → number w ≡ some v → (q : TextLocation) × ((need 22 (positive v) >>= tall) t m ≡ bad 22 q) → Decimal 0 w
      there v q x = let z : v ≡ 0 = (zero_is v).0 x in rw z at (number→decimal w v q).0

-- a mask of which only so much is known
abbrev pub sketch : List ℕ → ℕ → ℕ → Mask
sketch name w h = record { name = name; width = w; height = h; hot = none; bytes = [] }

module _ (text name pixels : List ℕ) where
  abbrev lim : ℕ
  lim = length name

  abbrev Wide : List ℕ × ℕ → Lang
  Wide nw = Front lim nw.0 (Side nw.1)

  abbrev High : List ℕ × ℕ → List ℕ → Lang
  High nw w = Define (Word (nw.0 ++ ascii "_height")) (Word w)

  pub row-2 : Placed (reading text name pixels).answer 2 ↔ NoHeightLine lim text
  row-2 = both_ways (told-stop text name pixels 2 (omega arith)) (rw (header-next lim) (both_ways (after_stop (first lim) (λ nw. heights nw.0) high Wide (λ nw. All solid nw.0) Token High (first_fits lim) (λ nw w k. front-name lim nw.0 (Side nw.1) w k) (λ nw s w. known-fits 2 nw.0 (ascii "height") w s) 2 (λ nw. heights-numbered nw.0) text start (first-numbered lim) (λ a b. omega arith) high-numbered (λ a b. omega arith)) (
    (λ (nw, k, g). (sketch nw.0 nw.1 0, (begun (Wide nw) text).0 k, λ b. (let (v, x, d) = begun-out (Wide nw) (Word (nw.0 ++ ascii "_height")) Token text b in let (e, l) = (begun (Wide nw · High nw v) text).1 d in g v e x l))),
    λ (m, b, g). ((m.name, m.width), (begun (Wide (m.name, m.width)) text).1 b, λ v e x l. g (begun-in (Wide (m.name, m.width)) (Word (m.name ++ ascii "_height")) Token v text ((begun (Wide (m.name, m.width) · High (m.name, m.width) v) text).0 (e, l)) x)),
  )))

  told-first : (d : ℕ) (Q : List ℕ → Type 0) → (d ≡ 31 → ⊥) → Quiet d (first lim) → ((nw : List ℕ × ℕ) (w : List ℕ) (m : TextLocation) → ((q : TextLocation) × (high nw w text m ≡ bad d q)) ↔ Q w)
      → ((reading text name pixels).answer ≡ unplaced d) ↔ ((m : Mask) × (w : List ℕ) × Begun (Second lim m (Word w)) text × Token w × Q w)
  told-first d Q l np k = both_ways (told-bad text name pixels d l) (rw (header-next lim) (both_ways (after-bad (first lim) (λ nw. heights nw.0) high Wide (λ nw. All solid nw.0) Token High (first_fits lim) (λ nw w k. front-name lim nw.0 (Side nw.1) w k) (λ nw s w. known-fits 2 nw.0 (ascii "height") w s) 2 (λ nw. heights-numbered nw.0) text start d Q np (λ nw. known-quiet 2 d nw.0 (ascii "_height")) k) (
    (λ (nw, w, e, x, a, y). (sketch nw.0 nw.1 0, w, (begun (Wide nw · High nw w) text).0 (e, a), x, y)),
    λ (m, w, b, x, y). (let (e, a) = (begun (Wide (m.name, m.width) · High (m.name, m.width) w) text).1 b in ((m.name, m.width), w, e, x, a, y)),
  )))

  pub row-height : (f : Fault) → ((reading text name pixels).answer ≡ unplaced (120 + fault_number f)) ↔ BadHeight lim (Says (Err f)) text
  row-height Empty = told-first 121 (Says (Err Empty)) (λ q. omega arith) (first-quiet lim refl refl) (λ nw w m. both_ways (high-bad nw w text m 121 refl refl refl) (side-fault 120 Empty w))
  row-height LeadingZero = told-first 122 (Says (Err LeadingZero)) (λ q. omega arith) (first-quiet lim refl refl) (λ nw w m. both_ways (high-bad nw w text m 122 refl refl refl) (side-fault 120 LeadingZero w))
  row-height NotDigit = told-first 123 (Says (Err NotDigit)) (λ q. omega arith) (first-quiet lim refl refl) (λ nw w m. both_ways (high-bad nw w text m 123 refl refl refl) (side-fault 120 NotDigit w))
  row-height OutOfRange = told-first 124 (Says (Err OutOfRange)) (λ q. omega arith) (first-quiet lim refl refl) (λ nw w m. both_ways (high-bad nw w text m 124 refl refl refl) (side-fault 120 OutOfRange w))

  pub row-22 : ((reading text name pixels).answer ≡ unplaced 22) ↔ ZeroHeight lim text
  row-22 = both_ways (told-first 22 (Decimal 0) (λ q. omega arith) (first-quiet lim refl refl) (λ nw w m. high-22 nw w text m)) (
    (λ (m, w, b, x, d). (m, begun-in (Wide (m.name, m.width)) (Word (m.name ++ ascii "_height")) (Decimal 0) w text b d)),
    λ (m, b). (let (v, d, c) = begun-out (Wide (m.name, m.width)) (Word (m.name ++ ascii "_height")) (Decimal 0) text b in (m, v, c, zero-token v d, d)),
  )
