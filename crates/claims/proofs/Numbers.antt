-- Which numbers a refusal can have. With a place: 1 to 5 in the header, 6 in data, 7 up to the semicolon, 8 after it. Without one: those that pass a test, `in_header` in the header, and then only 31.
use Rattle.std.specs.Prelude.{◌≡◌, refl, Bool, eqb, leb, ltb, ℤ, Result as Parsed, Ok, Err}
use Rattle.std.proofs.Common.{sym, ◌∙◌, inl, inr, arith, eqb-true, leb-true, le-leb}
use Prim.Native.Nat.{ℕ, zero, suc, ◌+◌, ◌/◌, ◌≤◌}
use Rattle.std.proofs.Math.Option.{Option, none, some}
use Rattle.std.proofs.Math.Bool.{true, false}
use Rattle.std.proofs.lemmas.Bool.{false≢true}
use mathlib.Core.List.{List, [], ◌∷◌}
use Rattle.text.specs.declared.TextLocation.{TextLocation}
use Rattle.text.specs.Place.{pick, rest, after}
use Rattle.text.specs.Reader.{Result, ok, stop, bad, Reader, then, ◌>>=◌}
use Rattle.text.specs.Leaf.{give, want, need, one, first, judge, Move, go_on, stay, halt, moved, scan, run, fork, fork_of, choose, eot, end_if}
use Rattle.lexical.specs.Lexical.{is, while, lead, byte, skip, fixed, gap, line_end, leading}
use Rattle.lexical.specs.Token.{up_to, token}
use Rattle.hexadecimal.specs.Hex.{hexv, hex_digit, hex_start, hex_digits, hex_unit}
use Rattle.integer.specs.declared.Fault.{Fault}
use Rattle.integer.specs.declared.Fault.TheVariants.{Empty, LeadingZero, NotDigit, OutOfRange}
use Rattle.integer.specs.Decimal.{parse_u32, parse_i32, value_in, fault_number, fault_in}
use Rattle.lines.specs.Lines.{unsigned, signed, width_line, element, array_line}
use Rattle.header.specs.Header.{rest as headerRest, header}
use Rattle.body.specs.Data.{item, items, brace, closing, tail, trailer}
use Rattle.cells.specs.Cells.{count}
use Rattle.rows.specs.Rows.{ending, whole}
use Rattle.claims.specs.Terms.{HeaderNumber}

abbrev within : ℕ → ℕ → ℕ → Bool
within lo hi c = pick (leb lo c) (leb c hi) false

-- without a place: never
abbrev pub no_number : ℕ → Bool
no_number c = false

-- without a place: where the rows do not match the buffer
abbrev pub only_31 : ℕ → Bool
only_31 c = eqb c 31

-- without a place: of the header; a side that is 0, or an integer that is none, four for each line. What that says of a number is `header-number` below
abbrev pub in_header : ℕ → Bool
in_header c = pick (within 21 22 c) true (pick (within 111 114 c) true (pick (within 121 124 c) true (pick (within 131 134 c) true (within 141 144 c))))

-- all four numbers of a line's integer pass the test
abbrev pub four : (ℕ → Bool) → ℕ → Bool
four bare c = pick (bare (c + 1)) (pick (bare (c + 2)) (pick (bare (c + 3)) (bare (c + 4)) false) false) false

pub four-fault : (bare : ℕ → Bool) (c : ℕ) → four bare c ≡ true → (f : Fault) → bare (c + fault_number f) ≡ true
four-fault bare c h f = go (bare (c + 1)) (bare (c + 2)) (bare (c + 3)) refl refl refl h f
  where
    go : (x y z : Bool) → bare (c + 1) ≡ x → bare (c + 2) ≡ y → bare (c + 3) ≡ z → pick x (pick y (pick z (bare (c + 4)) false) false) false ≡ true → (f : Fault) → bare (c + fault_number f) ≡ true
    go true true true p q r h Empty = p
    go true true true p q r h LeadingZero = q
    go true true true p q r h NotDigit = r
    go true true true p q r h OutOfRange = h
    go true true false p q r h f = absurd (false≢true h)
    go true false z p q r h f = absurd (false≢true h)
    go false y z p q r h f = absurd (false≢true h)

-- with a place lo to hi, without one those that pass bare
abbrev Good : {A : Type 0} → ℕ → ℕ → (ℕ → Bool) → Result A → Type 0
Good lo hi bare (ok a e) = Unit {0}
Good lo hi bare (stop c e) = within lo hi c ≡ true
Good lo hi bare (bad c e) = bare c ≡ true

pub record Numbered {A : Type 0} (lo hi : ℕ) (bare : ℕ → Bool) (p : Reader A) : Type 0 where
  pub numbered : (t : List ℕ) (i : TextLocation) → Good lo hi bare (p t i)

-- ---- the leaves

judge-good : {A : Type 0} (lo hi : ℕ) (bare : ℕ → Bool) (c : ℕ) → within lo hi c ≡ true → (o : Option A) (i : TextLocation) → Good lo hi bare (judge c o i)
judge-good lo hi bare c s none i = s
judge-good lo hi bare c s (some a) i = tt

module _ {lo hi : ℕ} {bare : ℕ → Bool} where
  pub bind-numbered : {A B : Type 0} {p : Reader A} {f : A → Reader B} → Numbered lo hi bare p → ((a : A) → Numbered lo hi bare (f a)) → Numbered lo hi bare (p >>= f)
  unfolding ◌>>=◌
  bind-numbered {A} {B} {p} {f} hp hf = record { numbered = λ t i. go t (p t i) (hp.numbered t i) }
    where
      go : (t : List ℕ) (r : Result A) → Good lo hi bare r → Good lo hi bare (then r (λ a e. f a t e))
      go t (ok a e) g = (hf a).numbered t e
      go t (stop c e) g = g
      go t (bad c e) g = g

  pub give-numbered : {A : Type 0} (a : A) → Numbered lo hi bare (give a)
  unfolding give
  give-numbered a = record { numbered = λ t i. tt }

  pub need-numbered : {A : Type 0} (c : ℕ) (o : Option A) → bare c ≡ true → Numbered lo hi bare (need c o)
  unfolding need
  need-numbered c none s = record { numbered = λ t i. s }
  need-numbered c (some a) s = record { numbered = λ t i. tt }

  -- an integer's token
  module _ (c : ℕ) (w : List ℕ) (s : four bare c ≡ true) where
    pub unsigned-numbered : Numbered lo hi bare (unsigned c w)
    unfolding need
    unsigned-numbered = record { numbered = λ t i. go (parse_u32 w) t i }
      where
        go : (u : Parsed ℕ Fault) (t : List ℕ) (i : TextLocation) → Good lo hi bare (need (c + fault_in u) (value_in u) t i)
        go (Ok n) t i = tt
        go (Err f) t i = four-fault bare c s f

    pub signed-numbered : Numbered lo hi bare (signed c w)
    unfolding need
    signed-numbered = record { numbered = λ t i. go (parse_i32 w) t i }
      where
        go : (u : Parsed ℤ Fault) (t : List ℕ) (i : TextLocation) → Good lo hi bare (need (c + fault_in u) (value_in u) t i)
        go (Ok z) t i = tt
        go (Err f) t i = four-fault bare c s f

  -- a run that halts at no byte is not refused
  pub skip-numbered : (class : ℕ → Bool) → Numbered lo hi bare (skip class)
  unfolding skip run
  skip-numbered class = record { numbered = λ t i. go (rest t i) i }
    where
      go : (l : List ℕ) (i : TextLocation) → Good lo hi bare (scan 0 (while class) (λ s. some tt) tt l i)
      go [] i = tt
      go (b ∷ l) i = two (class b) (go l (after b i))
        where
          two : (d : Bool) → Good lo hi bare (scan 0 (while class) (λ s. some tt) tt l (after b i))
              → Good lo hi bare (moved {S = Unit {0}} 0 i (pick d (go_on tt) (stay tt)) (λ s. scan 0 (while class) (λ s. some tt) s l (after b i)))
          two true h = h
          two false h = tt

  module _ (c : ℕ) (s : within lo hi c ≡ true) where
    pub want-numbered : {A : Type 0} (o : Option A) → Numbered lo hi bare (want c o)
    unfolding want
    want-numbered none = record { numbered = λ t i. s }
    want-numbered (some a) = record { numbered = λ t i. tt }

    one-numbered : {A : Type 0} (g : ℕ → Option A) → Numbered lo hi bare (one c g)
    unfolding one
    one-numbered g = record { numbered = λ t i. go i (rest t i) }
      where
        go : (i : TextLocation) (l : List ℕ) → Good lo hi bare (first c g l i)
        go i [] = s
        go i (b ∷ l) = judge-good lo hi bare c s (g b) (after b i)

    run-numbered : {S A : Type 0} (step : S → ℕ → Move S A) (fin : S → Option A) (z : S) → Numbered lo hi bare (run c step fin z)
    unfolding run
    run-numbered {S} {A} step fin z = record { numbered = λ t i. go z (rest t i) i }
      where
        two : (b : ℕ) (l : List ℕ) (i : TextLocation) (m : Move S A) → ((w : S) → Good lo hi bare (scan c step fin w l (after b i))) → Good lo hi bare (moved c i m (λ w. scan c step fin w l (after b i)))
        two b l i (go_on w) h = h w
        two b l i (stay a) h = tt
        two b l i halt h = s

        go : (z : S) (l : List ℕ) (i : TextLocation) → Good lo hi bare (scan c step fin z l i)
        go z [] i = judge-good lo hi bare c s (fin z) i
        go z (b ∷ l) i = two b l i (step z b) (λ w. go w l (after b i))

    pub fork-numbered : {A : Type 0} (v : ℕ) {p : Reader A} (w : ℕ) {q : Reader A} → Numbered lo hi bare p → Numbered lo hi bare q → Numbered lo hi bare (fork c v p w q)
    unfolding fork
    fork-numbered v {p} w {q} hp hq = record { numbered = λ t i. go t i (rest t i) }
      where
        two : (t : List ℕ) (i e : TextLocation) (d z : Bool) → Good lo hi bare (choose c e p q d z t i)
        two t i e true z = hp.numbered t i
        two t i e false true = hq.numbered t i
        two t i e false false = s

        go : (t : List ℕ) (i : TextLocation) (l : List ℕ) → Good lo hi bare (fork_of c v p w q l t i)
        go t i [] = s
        go t i (b ∷ l) = two t i (after b i) (eqb b v) (eqb b w)

    pub eot-numbered : Numbered lo hi bare (eot c)
    unfolding eot
    eot-numbered = record { numbered = λ t i. go i (rest t i) }
      where
        go : (i : TextLocation) (l : List ℕ) → Good lo hi bare (end_if c l i)
        go i [] = tt
        go i (b ∷ l) = s

    pub byte-numbered : (class : ℕ → Bool) → Numbered lo hi bare (byte c class)
    unfolding byte
    byte-numbered class = one-numbered _

    pub fixed-numbered : (w : List ℕ) → Numbered lo hi bare (fixed c w)
    unfolding fixed
    fixed-numbered [] = give-numbered tt
    fixed-numbered (b ∷ w) = bind-numbered (byte-numbered (is b)) (λ a. fixed-numbered w)

    pub gap-numbered : Numbered lo hi bare (gap c)
    unfolding gap
    gap-numbered = bind-numbered (byte-numbered _) (λ a. skip-numbered _)

    pub line_end-numbered : Numbered lo hi bare (line_end c)
    unfolding line_end
    line_end-numbered = bind-numbered (skip-numbered _) (λ a. byte-numbered _)

    pub leading-numbered : (fresh : Bool) → Numbered lo hi bare (leading c fresh)
    unfolding leading
    leading-numbered fresh = run-numbered lead (λ s. none) fresh

    pub token-numbered : (ends : ℕ → Bool) (lim : ℕ) → Numbered lo hi bare (token ends c lim)
    unfolding token
    token-numbered ends lim = run-numbered (up_to ends lim) (λ w. some w) []

    digits-numbered : (n v : ℕ) → Numbered lo hi bare (hex_digits c n v)
    unfolding hex_digits hex_digit
    digits-numbered zero v = give-numbered v
    digits-numbered (suc n) v = bind-numbered (one-numbered hexv) (λ d. digits-numbered n _)

    pub hex_unit-numbered : (n : ℕ) → Numbered lo hi bare (hex_unit c n)
    unfolding hex_unit hex_start hex_digit
    hex_unit-numbered n = bind-numbered (bind-numbered (fixed-numbered _) (λ a. byte-numbered _)) (λ a. bind-numbered (one-numbered hexv) (λ d. digits-numbered n d))

pub ruleset numbers = (bind-numbered, give-numbered, unsigned-numbered, signed-numbered, need-numbered, want-numbered, byte-numbered, skip-numbered, fixed-numbered, gap-numbered, line_end-numbered, leading-numbered, token-numbered, hex_unit-numbered, fork-numbered, eot-numbered)

-- ---- the format's parts

module _ {lo hi : ℕ} {bare : ℕ → Bool} where
  pub width-numbered : (limit : ℕ) → within lo hi 1 ≡ true → four bare 110 ≡ true → bare 21 ≡ true
      → Numbered lo hi bare (width_line limit)
  unfolding width_line
  width-numbered limit s u v = search numbers depth 40 fits 10000

  pub array-numbered : (name : List ℕ) → within lo hi 5 ≡ true → Numbered lo hi bare (array_line 5 name)
  unfolding array_line element
  array-numbered name s = search numbers depth 40 fits 10000

  pub rest-numbered : (name : List ℕ) (w h : ℕ) → within lo hi 3 ≡ true → within lo hi 4 ≡ true → within lo hi 5 ≡ true
      → four bare 130 ≡ true → four bare 140 ≡ true → Numbered lo hi bare (headerRest name w h)
  unfolding headerRest
  rest-numbered name w h r s t u v = search (numbers, array-numbered) depth 60 fits 20000

pub header-numbered : (limit : ℕ) → Numbered 1 5 in_header (header limit)
unfolding header
header-numbered limit = search (numbers, width-numbered, rest-numbered) depth 40 fits 10000

module _ {lo hi : ℕ} {bare : ℕ → Bool} where
  pub item-numbered : (first : Bool) → within lo hi 6 ≡ true → Numbered lo hi bare (item first)
  unfolding item
  item-numbered true s = search numbers depth 20
  item-numbered false s = search numbers depth 20

  pub items-numbered : (k : ℕ) (first : Bool) → within lo hi 6 ≡ true → Numbered lo hi bare (items k first)
  unfolding items
  items-numbered zero first s = give-numbered []
  items-numbered (suc k) first s = bind-numbered (item-numbered first s) (λ b. bind-numbered (items-numbered k false s) (λ l. give-numbered (b ∷ l)))

  pub closing-numbered : within lo hi 7 ≡ true → Numbered lo hi bare closing
  unfolding closing brace
  closing-numbered s = search numbers depth 30 fits 3000

  pub tail-numbered : within lo hi 8 ≡ true → Numbered lo hi bare tail
  unfolding tail
  tail-numbered s = search numbers

  pub trailer-numbered : within lo hi 7 ≡ true → within lo hi 8 ≡ true → Numbered lo hi bare trailer
  unfolding trailer tail
  trailer-numbered s r = search (numbers, closing-numbered)

ending-numbered : (e few first : Bool) (l : List ℕ) → Numbered 6 8 only_31 (ending e few first l)
ending-numbered true few first l = search (numbers, trailer-numbered)
ending-numbered false true first l = search (numbers, item-numbered)
ending-numbered false false first l = search (numbers, trailer-numbered)

pub whole-numbered : (w h n : ℕ) → Numbered 6 8 only_31 (whole w h n)
unfolding whole
whole-numbered w h n = bind-numbered (items-numbered _ true refl) (ending-numbered (eqb (n / w) h) (ltb (n / w) h) (eqb (count w h n) 0))

-- ---- what follows

in-range : (lo hi c : ℕ) → within lo hi c ≡ true → (lo ≤ c) × (c ≤ hi)
in-range lo hi c q = go (leb lo c) refl q
  where
    go : (d : Bool) → leb lo c ≡ d → pick d (leb c hi) false ≡ true → (lo ≤ c) × (c ≤ hi)
    go true u v = (leb-true lo c u, leb-true c hi v)
    go false u v = absurd (false≢true v)

-- a number in a range or told by another test: the one case, or the other
either : {C : Type 0} (lo hi c : ℕ) (d : Bool) → pick (within lo hi c) true d ≡ true → ((lo ≤ c) × (c ≤ hi) → C) → (d ≡ true → C) → C
either {C} lo hi c d q f g = go (within lo hi c) refl q
  where
    go : (b : Bool) → within lo hi c ≡ b → pick b true d ≡ true → C
    go true u v = f (in-range lo hi c u)
    go false u v = g v

-- what `in_header` says of a number
pub header-number : (c : ℕ) → in_header c ≡ true → HeaderNumber c
header-number c q =
    either 21 22 c _ q inl (λ r. either 111 114 c _ r (λ x. inr (inl x)) (λ r. either 121 124 c _ r (λ x. inr (inr (inl x))) (λ r. either 131 134 c _ r (λ x. inr (inr (inr (inl x)))) (λ r. inr (inr (inr (inr (in-range 141 144 c r))))))))

-- it is not 31, and at most 144
pub header-bounds : (c : ℕ) → HeaderNumber c → (c ≡ 31 → ⊥) × (c ≤ 144)
header-bounds c (inl (x, y)) = ((λ q. omega arith), omega arith)
header-bounds c (inr (inl (x, y))) = ((λ q. omega arith), omega arith)
header-bounds c (inr (inr (inl (x, y)))) = ((λ q. omega arith), omega arith)
header-bounds c (inr (inr (inr (inl (x, y))))) = ((λ q. omega arith), omega arith)
header-bounds c (inr (inr (inr (inr (x, y))))) = ((λ q. omega arith), omega arith)

module _ {A : Type 0} {lo hi : ℕ} {bare : ℕ → Bool} {p : Reader A} (h : Numbered lo hi bare p) where
  pub wider : (a b : ℕ) → a ≤ lo → hi ≤ b → Numbered a b bare p
  wider a b l r = record { numbered = λ t i. go (p t i) (h.numbered t i) }
    where
      go : (r : Result A) → Good lo hi bare r → Good a b bare r
      go (ok v e) g = tt
      go (stop c e) g = let (u, v) = in-range lo hi c g in rw (le-leb a c (omega arith), le-leb c b (omega arith))
      go (bad c e) g = g

  module _ (t : List ℕ) (i : TextLocation) (c : ℕ) (e : TextLocation) where
    pub placed-number : p t i ≡ stop c e → (lo ≤ c) × (c ≤ hi)
    placed-number q = in-range lo hi c (rw q at (h.numbered t i))

    pub unplaced-number : p t i ≡ bad c e → bare c ≡ true
    unplaced-number q = rw q at (h.numbered t i)

    -- a number that fails the test is not told without a place; for a known test and number, by `refl`
    pub untold : bare c ≡ false → p t i ≡ bad c e → ⊥
    untold u q = false≢true (sym u ∙ unplaced-number q)

pub thirty-one : {A : Type 0} {lo hi : ℕ} {p : Reader A} → Numbered lo hi only_31 p → (t : List ℕ) (i : TextLocation) (c : ℕ) (e : TextLocation) → p t i ≡ bad c e → c ≡ 31
thirty-one h t i c e q = eqb-true c 31 (unplaced-number h t i c e q)
