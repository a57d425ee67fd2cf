-- The readers of words, gaps, line ends, tokens and leading lines fit the grammar's; and how words begin.
use Rattle.std.proofs.Math.Path.{◌≡◌, refl, sym, ap}
use Rattle.std.proofs.Common.{◌∙◌, inl, inr, arith}
use Rattle.std.specs.Prelude.{◌⊎◌, ℕ, ◌+◌, ◌≤◌, ◌<◌, Bool, ◌||◌, eqb}
use Rattle.std.proofs.Math.Option.{Option, none, some}
use Rattle.std.proofs.Math.Bool.{true, false, not}
use Rattle.std.proofs.lemmas.Bool.{false≢true}
use mathlib.Core.List.{List, [], ◌∷◌, ◌++◌, append-nil, append_assoc}
use Rattle.std.proofs.Math.ListN.{length, length-append}
use Rattle.std.proofs.Math.Dec.{ltb}
use borrow.Author.Tests.{lt-ltb, ltb-true, not-true, not-false, eqb-true, eqb-false, eq-eqb, ne_eqb}
use Rattle.text.specs.declared.TextLocation.{TextLocation}
use Rattle.text.specs.Place.{pick, rest, after, past}
use Rattle.text.specs.Ascii.{ascii}
use Rattle.text.specs.Reader.{Result, ok, end_of, Reader, ◌>>=◌, ◌>>◌}
use Rattle.text.specs.Leaf.{one, first, judge, scan, moved, go_on, stay, halt, run, eot, end_if}
use Rattle.lexical.specs.Lexical.{is_blank, is_loose, when, while, is, skip, byte, fixed, gap, line_end, lead, leading}
use Rattle.lexical.specs.Token.{up_to, token}
use Rattle.grammar.proofs.Bind.{past-append}
use Rattle.grammar.specs.Lang.{Lang, Word, ◌·◌, ◌∣◌, All, Many, Some, Star, stop, more}
use Rattle.grammar.specs.Grammar.{blank, space, solid, Skipped, Gap}
use Rattle.grammar.proofs.Fits.{Follow, Any, End, Off, Next, Here, At, Fits, Begins, fit_same, fit-run, fit_then, fit-give, fit-done, fit-either}

-- a byte within a line
abbrev pub in_line : ℕ → Bool
in_line b = not (eqb b 10)

-- how a define line ends
abbrev pub LineEnd : Lang
LineEnd = Many blank · Word (ascii "\n")

-- ---- the reader's classes are the grammar's

or_is : (a b : Bool) → pick a true b ≡ (a || b)
or_is true b = refl
or_is false b = refl

pub blank-is : is_blank ≡ blank
unfolding is_blank
blank-is = λ i b. or_is (eqb b 32) (eqb b 9) i

pub loose-is : is_loose ≡ space
unfolding is_loose
loose-is = λ i b. (or_is (is_blank b) (eqb b 10) ∙ ap (λ (f : ℕ → Bool). f b || eqb b 10) blank-is) i

-- ---- how words begin

pub begins-any : {L : Lang} {G : Follow} → Begins Any L G
unfolding Any
begins-any = record { begins = λ v r l o. tt }

pub begins-word : (g : ℕ → Bool) (x : ℕ) (s : List ℕ) {G : Follow} → g x ≡ false → Begins (Off g) (Word (x ∷ s)) G
unfolding Word Off
begins-word g x s q = record { begins = λ v r l o. rw l q }

pub begins-next : (x : ℕ) (s : List ℕ) {G : Follow} → Begins (Next x) (Word (x ∷ s)) G
unfolding Word Next
begins-next x s = record { begins = λ v r l o. rw l refl }

pub begins-end : (g : ℕ → Bool) → Begins (Off g) (Word []) End
unfolding Word Off End
begins-end g = record { begins = λ v r l o. rw (l, o) tt }

pub begins-cat : {F : Follow} {K : Lang} (L : Lang) {G : Follow} → Begins F K Any → Begins F (K · L) G
unfolding ◌·◌ Any
begins-cat {F} L h = record { begins = λ w r (u, v, q, k, l) o. rw (q, append_assoc u v r) (h.begins u (v ++ r) k tt) }

pub begins-or : {F : Follow} {K L : Lang} {G : Follow} → Begins F K G → Begins F L G → Begins F (K ∣ L) G
unfolding ◌∣◌
begins-or {F} {K} {L} {G} a b = record { begins = go }
  where
    go : (w r : List ℕ) → K w ⊎ L w → G r → F (w ++ r)
    go w r (inl k) o = a.begins w r k o
    go w r (inr k) o = b.begins w r k o

pub begins-many : (g h : ℕ → Bool) (L : Lang) {G : Follow} → ((b : ℕ) → h b ≡ true → g b ≡ false) → Begins (Off g) L G → Begins (Off g) (Many h · L) G
unfolding ◌·◌ Many Off
begins-many g h L d b = record { begins = λ w r (u, v, q, k, l) o. rw (q, append_assoc u v r) (go u (v ++ r) k (b.begins v r l o)) }
  where
    go : (u r : List ℕ) → All h u → Off g r → Off g (u ++ r)
    go [] r a f = f
    go (x ∷ u) r a f = d x a.0

-- a word that is not empty, of bytes outside g
pub begins-all : (g h : ℕ → Bool) {K : Lang} {G : Follow} → ((b : ℕ) → h b ≡ true → g b ≡ false) → ((w : List ℕ) → K w → All h w × (0 < length w)) → Begins (Off g) K G
unfolding Off
begins-all g h d f = record { begins = λ w r k o. (let (a, b) = f w k in go w r a b) }
  where
    go : (w r : List ℕ) → All h w → 0 < length w → Off g (w ++ r)
    go [] r a l = absurd (omega arith)
    go (x ∷ w) r a l = d x a.0

pub solid-blank : (b : ℕ) → solid b ≡ true → blank b ≡ false
solid-blank b q = go (blank b) q
  where
    go : (d : Bool) → not (d || eqb b 10) ≡ true → d ≡ false
    go true q = absurd (false≢true q)
    go false q = refl

blank-solid : (b : ℕ) → blank b ≡ true → solid b ≡ false
blank-solid b q = rw q

pub begins-symbol : (r : List ℕ) (x : ℕ) (s : List ℕ) {G : Follow} → All solid r → solid x ≡ true → Begins (Off blank) (Word (r ++ (x ∷ s))) G
unfolding Word Off
begins-symbol [] x s a q = record { begins = λ v r l o. rw l (solid-blank x q) }
begins-symbol (y ∷ r) x s a q = record { begins = λ v r l o. rw l (solid-blank y a.0) }

pub gap-solid : {G : Follow} → Begins (Off solid) Gap G
unfolding Gap Some
gap-solid = begins-all solid blank blank-solid (λ w k. k)

pub line_end-solid : {G : Follow} → Begins (Off solid) LineEnd G
line_end-solid = begins-many solid blank _ blank-solid (begins-word solid 10 [] refl)

-- ---- one byte, a word

pub one-fits : {A : Type 0} (c : ℕ) (g : ℕ → Option A) (a : A) → Fits (one c g) a (Unit {0}) (λ w. (b : ℕ) × (w ≡ b ∷ []) × (g b ≡ some a)) Any
unfolding Any one
one-fits {A} c g a = record { to = λ t i e q. at t i e (rest t i) refl q; from = λ t i w r x d (b, l, h) o. rw (d, l, h) }
  where
    fin : (t : List ℕ) (i e : TextLocation) (b : ℕ) (l : List ℕ) → rest t i ≡ b ∷ l → (o : Option A) → g b ≡ o → judge c o (after b i) ≡ ok a e → Unit {0} × At (λ w. (b : ℕ) × (w ≡ b ∷ []) × (g b ≡ some a)) Any t i e
    fin t i e b l u none v q = let z : ◌≡◌ {A = ℕ} 0 1 = cc in absurd (omega arith)
    fin t i e b l u (some x) v q = let y : x ≡ a = cc in (tt, (b ∷ [], l, u, (b, refl, v ∙ ap (λ (n : A). some n) y), tt, sym (ap end_of q)))

    at : (t : List ℕ) (i e : TextLocation) (l : List ℕ) → rest t i ≡ l → first c g l i ≡ ok a e → Unit {0} × At (λ w. (b : ℕ) × (w ≡ b ∷ []) × (g b ≡ some a)) Any t i e
    at t i e [] u q = let z : ◌≡◌ {A = ℕ} 0 1 = cc in absurd (omega arith)
    at t i e (b ∷ l) u q = fin t i e b l u (g b) refl q

when_true : (d : Bool) → when d ≡ some tt → d ≡ true
when_true true q = refl
when_true false q = let z : ◌≡◌ {A = ℕ} 0 1 = cc in absurd (omega arith)

-- one byte of a class
pub class-fits : (c : ℕ) (g : ℕ → Bool) → Fits (byte c g) tt (Unit {0}) (λ w. (b : ℕ) × (w ≡ b ∷ []) × (g b ≡ true)) Any
unfolding byte
class-fits c g = fit_same (λ w. ((λ (x, (b, l, q)). (x, (b, l, when_true (g b) q))), λ (x, (b, l, q)). (x, (b, l, ap when q)))) (one-fits c (λ b. when (g b)) tt)

pub byte_fits : (c x : ℕ) → Fits (byte c (is x)) tt (Unit {0}) (Word (x ∷ [])) Any
unfolding Word
byte_fits c x = fit_same (λ w. ((λ (y, (b, l, q)). (y, l ∙ ap (λ (n : ℕ). n ∷ []) (eqb-true b x q))), λ (y, l). (y, (x, l, eq-eqb x x refl)))) (class-fits c (is x))

pub fixed-fits : (c : ℕ) (s : List ℕ) → Fits (fixed c s) tt (Unit {0}) (Word s) Any
unfolding fixed Word ◌·◌
fixed-fits c [] = fit-give tt ((λ x. refl), λ q. tt)
fixed-fits c (x ∷ s) = fit_same (λ w. ((λ (y, (u, v, q, k, l)). (y, q ∙ cc (k, l))), λ (y, l). (y, (x ∷ [], s, l, refl, refl)))) (fit_then (byte_fits c x) (λ a. fixed-fits c s))

-- ---- runs of a class

module _ (g : ℕ → Bool) where
  abbrev skipping : List ℕ → TextLocation → Result (Unit {0})
  skipping l i = scan 0 (while g) (λ s. some tt) tt l i

  skip-to : (l : List ℕ) (i e : TextLocation) → skipping l i ≡ ok tt e → (w : List ℕ) × (r : List ℕ) × (l ≡ w ++ r) × All g w × Off g r × (e ≡ past i w)
  unfolding Off
  skip-to [] i e q = ([], [], refl, tt, tt, sym (ap end_of q))
  skip-to (x ∷ l) i e q = go (g x) refl (λ o. skip-to l (after x i) e o) q
    where
      go : (b : Bool) → g x ≡ b → (skipping l (after x i) ≡ ok tt e → (w : List ℕ) × (r : List ℕ) × (l ≡ w ++ r) × All g w × Off g r × (e ≡ past (after x i) w))
          → moved {S = Unit {0}} 0 i (pick b (go_on tt) (stay tt)) (λ s. skipping l (after x i)) ≡ ok tt e → (w : List ℕ) × (r : List ℕ) × (x ∷ l ≡ w ++ r) × All g w × Off g r × (e ≡ past i w)
      go true h ih q = let (w, r, d, a, o, z) = ih q in (x ∷ w, r, ap (λ (v : List ℕ). x ∷ v) d, (h, a), o, z)
      go false h ih q = ([], x ∷ l, refl, tt, h, sym (ap end_of q))

  skip-from : (i : TextLocation) (w r : List ℕ) → All g w → Off g r → skipping (w ++ r) i ≡ ok tt (past i w)
  unfolding Off
  skip-from i [] [] a o = refl
  skip-from i [] (x ∷ r) a o = rw o
  skip-from i (x ∷ w) r a o = rw a.0 (skip-from (after x i) w r a.1 o)

  pub skip-fits : Fits (skip g) tt (Unit {0}) (Many g) (Off g)
  unfolding skip run Many
  skip-fits = record { to = λ t i e q. (tt, skip-to (rest t i) i e q); from = λ t i w r x d k o. rw d (skip-from i w r k o) }

-- one byte or more of a class
runs-fits : (c : ℕ) (g : ℕ → Bool) → Fits (byte c g >> skip g) tt (Unit {0}) (Some g) (Off g)
unfolding Some Many ◌·◌
runs-fits c g = fit_same (λ w. ((λ (x, (u, v, q, (b, l, h), k)). (x, rw (q, l) ((h, k), omega arith))), λ (x, k). (x, parts w k.0 k.1))) (fit_then (class-fits c g) (λ a. skip-fits g))
  where
    parts : (w : List ℕ) → All g w → 0 < length w → (u : List ℕ) × (v : List ℕ) × (w ≡ u ++ v) × ((b : ℕ) × (u ≡ b ∷ []) × (g b ≡ true)) × All g v
    parts [] a l = absurd (omega arith)
    parts (x ∷ w) a l = (x ∷ [], w, refl, (x, refl, a.0), a.1)

pub gap-fits : (c : ℕ) → Fits (gap c) tt (Unit {0}) Gap (Off blank)
unfolding gap Gap
gap-fits c = rw blank-is (runs-fits c blank)

pub blanks-fits : Fits (skip is_blank) tt (Unit {0}) (Many blank) (Off blank)
blanks-fits = rw blank-is (skip-fits blank)

pub loose-fits : Fits (skip is_loose) tt (Unit {0}) (Many space) (Off space)
loose-fits = rw loose-is (skip-fits space)

pub line_end-fits : (c : ℕ) → Fits (line_end c) tt (Unit {0}) LineEnd Any
unfolding line_end
line_end-fits c = fit-run blanks-fits (begins-word blank 10 [] refl) (λ a. byte_fits c 10)

-- ---- a token

module _ (c lim : ℕ) where
  abbrev taking : List ℕ → List ℕ → TextLocation → Result (List ℕ)
  taking s l i = scan c (up_to space lim) (λ w. some w) s l i

  abbrev Took : List ℕ → List ℕ → List ℕ → TextLocation → TextLocation → Type 0
  Took s v l i e = (w : List ℕ) × (r : List ℕ) × (l ≡ w ++ r) × All solid w × (length v ≤ lim) × Off solid r × (v ≡ s ++ w) × (e ≡ past i w)

  take-to : (s v l : List ℕ) (i e : TextLocation) → length s ≤ lim → taking s l i ≡ ok v e → Took s v l i e
  unfolding Off
  take-to s v [] i e h q = let z : s ≡ v = cc in ([], [], refl, tt, omega (arith, ap length z), tt, sym z ∙ sym (append-nil s), sym (ap end_of q))
  take-to s v (x ∷ l) i e h q = go (space x) (ltb (length s) lim) refl refl (λ k o. take-to (s ++ (x ∷ [])) v l (after x i) e k o) q
    where
      go : (b d : Bool) → space x ≡ b → ltb (length s) lim ≡ d → (length (s ++ (x ∷ [])) ≤ lim → taking (s ++ (x ∷ [])) l (after x i) ≡ ok v e → Took (s ++ (x ∷ [])) v l (after x i) e)
          → moved c i (pick b (stay s) (pick d (go_on (s ++ (x ∷ []))) halt)) (λ s. taking s l (after x i)) ≡ ok v e → Took s v (x ∷ l) i e
      go true d u y ih q = let z : s ≡ v = cc in ([], x ∷ l, refl, tt, omega (arith, ap length z), ap not u, sym z ∙ sym (append-nil s), sym (ap end_of q))
      go false false u y ih q = let z : ◌≡◌ {A = ℕ} 0 1 = cc in absurd (omega arith)
      go false true u y ih q =
          let (w, r, d, a, n, o, z, p) = ih (omega (arith, ltb-true (length s) lim y, length-append s (x ∷ []))) q in
          (x ∷ w, r, ap (λ (v : List ℕ). x ∷ v) d, (ap not u, a), n, o, z ∙ append_assoc s (x ∷ []) w, p)

  take-from : (s w r : List ℕ) (i : TextLocation) → All solid w → length s + length w ≤ lim → Off solid r → taking s (w ++ r) i ≡ ok (s ++ w) (past i w)
  unfolding Off
  take-from s [] [] i a n o = rw (append-nil s)
  take-from s [] (x ∷ r) i a n o = rw (not-false (space x) o, append-nil s)
  take-from s (x ∷ w) r i a n o =
      rw (not-true (space x) a.0, lt-ltb (length s) lim (omega arith)) (take-from (s ++ (x ∷ [])) w r (after x i) a.1 (omega (arith, length-append s (x ∷ []))) o ∙ ap (λ (k : List ℕ). ok k (past (after x i) w)) (append_assoc s (x ∷ []) w))

  ends-fits : (w : List ℕ) → Fits (token space c lim) w (All solid w × (length w ≤ lim)) (Word w) (Off solid)
  unfolding token run Word
  ends-fits w = record {
    to = λ t i e q. (let (v, r, d, s, n, o, y, z) = take-to [] w (rest t i) i e (omega arith) q in ((rw y s, n), (v, r, d, sym y, o, z)));
    from = λ t i v r x d l o. rw (d, l) (take-from [] w r i x.0 (omega (arith, x.1)) o);
  }

  pub token-fits : (w : List ℕ) → Fits (token is_loose c lim) w (All solid w × (length w ≤ lim)) (Word w) (Off solid)
  token-fits w = rw loose-is (ends-fits w)

-- ---- leading lines

abbrev Lead : Bool → List ℕ → TextLocation → TextLocation → Type 0
Lead true l i e = (w : List ℕ) × (r : List ℕ) × (l ≡ w ++ 35 ∷ r) × Star Skipped w × (e ≡ past i w)
Lead false l i e = (u : List ℕ) × (w : List ℕ) × (r : List ℕ) × (l ≡ u ++ 10 ∷ (w ++ 35 ∷ r)) × All in_line u × Star Skipped w × (e ≡ past (after 10 (past i u)) w)

lead-mid : (x : ℕ) (i : TextLocation) (l : List ℕ) (e : TextLocation) (b : Bool) → eqb x 10 ≡ b → Lead b l (after x i) e → Lead false (x ∷ l) i e
lead-mid x i l e true q (w, r, o, s, z) = ([], w, r, cc (eqb-true x 10 q, o), tt, s, z ∙ ap (λ (n : ℕ). past (after n i) w) (eqb-true x 10 q))
lead-mid x i l e false q (u, w, r, o, a, s, z) = (x ∷ u, w, r, ap (λ (l : List ℕ). x ∷ l) o, (ap not q, a), s, z)

lead-to : (s : Bool) (i : TextLocation) (l : List ℕ) (e : TextLocation) → scan 1 lead (λ s. none) s l i ≡ ok tt e → Lead s l i e
unfolding Skipped ◌·◌ Word Many
lead-to s i [] e q = let z : ◌≡◌ {A = ℕ} 0 1 = cc in absurd (omega arith)
lead-to false i (x ∷ l) e q = lead-mid x i l e (eqb x 10) refl (lead-to (eqb x 10) (after x i) l e q)
lead-to true i (x ∷ l) e q = go (eqb x 35) refl (λ o. lead-mid x i l e (eqb x 10) refl (lead-to (eqb x 10) (after x i) l e o)) q
  where
    skipped : (u r : List ℕ) → eqb x 35 ≡ false → x ∷ l ≡ u ++ 10 ∷ r → (v : List ℕ) → u ++ 10 ∷ [] ≡ 35 ∷ v → ⊥
    skipped [] r n q v o = let z : ◌≡◌ {A = ℕ} 10 35 = cc in omega arith
    skipped (y ∷ u) r n q v o = let z : x ≡ 35 = cc in eqb-false x 35 n z

    go : (b : Bool) → eqb x 35 ≡ b → (scan 1 lead (λ s. none) (eqb x 10) l (after x i) ≡ ok tt e → Lead false (x ∷ l) i e)
        → moved 1 i (pick b (stay tt) (go_on (eqb x 10))) (λ s. scan 1 lead (λ s. none) s l (after x i)) ≡ ok tt e → Lead true (x ∷ l) i e
    go true n ih q = ([], l, cc (eqb-true x 35 n), stop, sym (ap end_of q))
    go false n ih q =
        let (u, w, r, o, a, s, z) = ih q in (
          (u ++ 10 ∷ []) ++ w,
          r,
          o ∙ sym (append_assoc (u ++ 10 ∷ []) w (35 ∷ r) ∙ append_assoc u (10 ∷ []) (w ++ 35 ∷ r)),
          more ((u, 10 ∷ [], refl, a, refl), skipped u (w ++ 35 ∷ r) n o) s,
          z ∙ sym (past-append i (u ++ 10 ∷ []) w ∙ ap (λ (n : TextLocation). past n w) (past-append i u (10 ∷ []))),
        )

lead-walk : (u r : List ℕ) (i : TextLocation) → All in_line u → scan 1 lead (λ s. none) false (u ++ 10 ∷ r) i ≡ scan 1 lead (λ s. none) true r (after 10 (past i u))
lead-walk [] r i a = refl
lead-walk (x ∷ u) r i a = rw (not-true (eqb x 10) a.0) (lead-walk u r (after x i) a.1)

lead-first : (u r : List ℕ) (i : TextLocation) → ((v : List ℕ) → u ++ 10 ∷ [] ≡ 35 ∷ v → ⊥) → scan 1 lead (λ s. none) true (u ++ 10 ∷ r) i ≡ scan 1 lead (λ s. none) false (u ++ 10 ∷ r) i
lead-first [] r i n = refl
lead-first (x ∷ u) r i n = rw (ne_eqb x 35 (λ q. n (u ++ 10 ∷ []) (ap (λ (y : ℕ). y ∷ (u ++ 10 ∷ [])) q)))

lead-from : (w r : List ℕ) (i : TextLocation) → Star Skipped w → scan 1 lead (λ s. none) true (w ++ 35 ∷ r) i ≡ ok tt (past i w)
unfolding Skipped ◌·◌ Word Many
lead-from w r i stop = refl
lead-from w r i (more {u = u} {v = v} ((y, z, q, a, o), n) s) =
    let p : u ≡ y ++ 10 ∷ [] = q ∙ ap (λ (k : List ℕ). y ++ k) o in
    let d : (u ++ v) ++ 35 ∷ r ≡ y ++ 10 ∷ (v ++ 35 ∷ r) = rw p (append_assoc (y ++ 10 ∷ []) v (35 ∷ r) ∙ append_assoc y (10 ∷ []) (v ++ 35 ∷ r)) in
    ap (λ (k : List ℕ). scan 1 lead (λ s. none) true k i) d ∙ lead-first y (v ++ 35 ∷ r) i (λ k e. n k (p ∙ e)) ∙ lead-walk y (v ++ 35 ∷ r) i a
    ∙ lead-from v r (after 10 (past i y)) s ∙ ap (λ (n : TextLocation). ok tt n) (sym (past-append i u v ∙ ap (λ (n : TextLocation). past n v) (ap (past i) p ∙ past-append i y (10 ∷ []))))

pub leading-fits : Fits (leading 1 true) tt (Unit {0}) (Star Skipped) (Next 35)
unfolding leading run Next
leading-fits = record {
  to = λ t i e q. (let (w, r, d, s, z) = lead-to true i (rest t i) e q in (tt, (w, 35 ∷ r, d, s, refl, z)));
  from = λ t i w r x d k o. back t i w r d k o;
}
  where
    back : (t : List ℕ) (i : TextLocation) (w r : List ℕ) → Here t i w r → Star Skipped w → Next 35 r → scan 1 lead (λ s. none) true (rest t i) i ≡ ok tt (past i w)
    back t i w [] d k o = absurd o
    back t i w (y ∷ r) d k o = rw (d, o) (lead-from w r i k)

-- ---- the end of the text

pub end_fits : (c : ℕ) → Fits (eot c) tt (Unit {0}) (Word []) End
unfolding eot Word End
end_fits c = record { to = λ t i e q. (tt, at t i e (rest t i) refl q); from = λ t i w r x d l o. rw (d, l, o) }
  where
    at : (t : List ℕ) (i e : TextLocation) (l : List ℕ) → rest t i ≡ l → end_if c l i ≡ ok tt e → At (Word []) End t i e
    at t i e [] d q = ([], [], d, refl, refl, sym (ap end_of q))
    at t i e (x ∷ l) d q = let n : ◌≡◌ {A = ℕ} 0 1 = cc in absurd (omega arith)

-- ---- for `search`

module _ {B : Type 0} {b : B} {X : Type 0} {L : Lang} {G : Follow} {f : Unit {0} → Reader B} where
  pub fit-blanks : Begins (Off blank) L G → ((a : Unit {0}) → Fits (f a) b X L G) → Fits (skip is_blank >>= f) b X (Many blank · L) G
  fit-blanks h k = fit-run blanks-fits h k

  pub fit-loose : Begins (Off space) L G → ((a : Unit {0}) → Fits (f a) b X L G) → Fits (skip is_loose >>= f) b X (Many space · L) G
  fit-loose h k = fit-run loose-fits h k

  pub fit-gap : (c : ℕ) → Begins (Off blank) L G → ((a : Unit {0}) → Fits (f a) b X L G) → Fits (gap c >>= f) b X (Gap · L) G
  fit-gap c h k = fit-run (gap-fits c) h k

  pub fit-fixed : (c : ℕ) (s : List ℕ) → ((a : Unit {0}) → Fits (f a) b X L G) → Fits (fixed c s >>= f) b X (Word s · L) G
  fit-fixed c s k = fit_then (fixed-fits c s) k

  -- a word in two parts
  pub fit-two : (c : ℕ) (r s : List ℕ) → ((a : Unit {0}) → Fits (f a) b X L G) → Fits (fixed c r >>= λ a. fixed c s >>= f) b X (Word (r ++ s) · L) G
  unfolding ◌·◌ Word
  fit-two c r s k =
      fit_same (λ w. ((λ (x, (u, v, q, k, (y, z, o, m, l))). (x, (r ++ s, z, q ∙ cc (k, o, m, append_assoc r s z), refl, l))), λ (x, (u, v, q, k, l)). (x, (r, s ++ v, q ∙ cc (k, append_assoc r s v), refl, (s, v, refl, refl, l)))))
      (fit_then (fixed-fits c r) (λ a. fit_then (fixed-fits c s) k))

pub ruleset begin = (begins-word, begins-next, begins-end, begins-cat, begins-or, begins-symbol, gap-solid, line_end-solid)

pub ruleset fit = (fit-two, fit-fixed, fit-blanks, fit-loose, fit-gap, fit_then, fit-done, fit-either, fixed-fits, byte_fits, line_end-fits, end_fits, blanks-fits, loose-fits, begin)
