-- What any text leaves in the name buffer.
use Rattle.std.specs.Prelude.{◌≡◌, ◌⊎◌, ℕ, zero, suc, ◌+◌, ◌-◌, ◌≤◌, Bool, length, ltb}
use Rattle.std.proofs.Math.Path.{refl, ap}
use Rattle.std.proofs.Common.{sym, ◌∙◌, inl, inr, arith, length-append, lt-ltb, le-ltb}
use Rattle.std.proofs.Math.Option.{some}
use Rattle.std.proofs.Math.Bool.{true, false, not}
use Rattle.std.proofs.lemmas.Bool.{false≢true, not-true}
use mathlib.Core.List.{List, [], ◌∷◌, ◌++◌, append_assoc}
use Rattle.std.proofs.Math.Seq.{take-append_seam}
use Rattle.text.specs.declared.TextLocation.{TextLocation}
use Rattle.text.specs.Place.{pick, byte_of, rest, after, start, past}
use Rattle.text.specs.Reader.{Result, ok, stop, bad, end_of}
use Rattle.text.specs.Leaf.{scan, moved, stay, halt, go_on, run}
use Rattle.lexical.specs.Lexical.{is_loose}
use Rattle.lexical.specs.Token.{up_to, token, span, overlay}
use Rattle.symbol.specs.Symbol.{hash_define, opening, stored_in, stored}
use Rattle.image.specs.Reading.{reading}
use Rattle.grammar.specs.Lang.{◌·◌, All, Some}
use Rattle.grammar.specs.Grammar.{blank, space, solid, Gap}
use Rattle.grammar.proofs.Bind.{past-byte, move}
use Rattle.grammar.proofs.Fits.{Fits, Off, fit-run}
use Rattle.grammar.proofs.Lines.{all_join}
use Rattle.grammar.proofs.Pieces.{begin, leading-fits, gap-fits, fit-fixed, loose-is}
use Rattle.grammar.proofs.Exact.{start-rest}
use Rattle.claims.specs.Terms.{Opening, over}
use Rattle.refusals.specs.Terms.{NotNext, Stores, unopened, opened}

pub opening-fits : Fits opening tt (Unit {0}) Opening (Off blank)
unfolding opening
opening-fits = fit-run leading-fits (search begin) (λ a. fit-fixed 1 hash_define (λ a. gap-fits 1))

-- a run of solid bytes that ends, or that fills the buffer
Ends : ℕ → List ℕ → List ℕ → Type 0
Ends lim w v = (Off solid v × (length w ≤ lim)) ⊎ (length w ≡ lim)

module _ (lim : ℕ) where
  abbrev taking : List ℕ → List ℕ → TextLocation → Result (List ℕ)
  taking g l i = scan 1 (up_to space lim) (λ w. some w) g l i

  here : (g v : List ℕ) (i : TextLocation) → Off solid v ⊎ (length g ≡ lim) → end_of (taking g v i) ≡ i
  unfolding Off
  here g [] i h = refl
  here g (b ∷ v) i h = go (space b) refl h
    where
      go : (s : Bool) → space b ≡ s → (not (space b) ≡ false) ⊎ (length g ≡ lim) → end_of (moved 1 i (pick s (stay g) (pick (ltb (length g) lim) (go_on (g ++ (b ∷ []))) halt)) (λ w. taking w v (after b i))) ≡ i
      go true q k = refl
      go false q (inl k) = absurd (false≢true (sym k ∙ ap not q))
      go false q (inr k) = rw (le-ltb (length g) lim (omega arith))

  ends : (g w v : List ℕ) (i : TextLocation) → All solid w → length g + length w ≤ lim → Off solid v ⊎ (length g + length w ≡ lim) → end_of (taking g (w ++ v) i) ≡ past i w
  ends g [] v i a l (inl h) = here g v i (inl h)
  ends g [] v i a l (inr h) = here g v i (inr (omega arith))
  ends g (x ∷ w) v i (s, a) l h =
      rw (not-true (space x) s, lt-ltb (length g) lim (omega arith)) (ends (g ++ (x ∷ [])) w v (after x i) a (omega (arith, length-append g (x ∷ []))) (on h))
    where
      on : Off solid v ⊎ (length g + suc (length w) ≡ lim) → Off solid v ⊎ (length (g ++ (x ∷ [])) + length w ≡ lim)
      on (inl k) = inl k
      on (inr k) = inr (omega (arith, length-append g (x ∷ [])))

-- after an opening u: the solid bytes w that follow it, to their end or the buffer's; the rest as lent
stored-so : (text name pixels u w v : List ℕ) → text ≡ u ++ (w ++ v) → Opening u → Off blank (w ++ v) → All solid w → (Off solid v × (length w ≤ length name)) ⊎ (length w ≡ length name)
    → (reading text name pixels).symbol ≡ over w name
unfolding reading stored span token run
stored-so t name pixels u w v q o b a e = ap (λ (x : List ℕ). overlay x name) so
  where
    lim : ℕ
    lim = length name

    at : TextLocation
    at = past start u

    left : rest t at ≡ w ++ v
    left = move u (w ++ v) t start (start-rest t ∙ q)

    opened : opening t start ≡ ok tt at
    opened = opening-fits.from t start u (w ++ v) tt (start-rest t ∙ q) o b

    end : (Off solid v × (length w ≤ length name)) ⊎ (length w ≡ length name) → end_of (token is_loose 1 (length name) t at) ≡ past at w
    end (inl (x, y)) = rw (loose-is, left) (ends (length name) [] w v at a (omega arith) (inl x))
    end (inr y) = rw (loose-is, left) (ends (length name) [] w v at a (omega arith) (inr (omega arith)))

    size : byte_of (past at w) - byte_of at ≡ length w
    size = omega (arith, past-byte at w)

    so : stored_in (length name) t (opening t start) ≡ w
    so = rw (opened, end e, size, left) (take-append_seam w v)

-- where nothing opens a symbol, the buffer is as lent
bare : (text name pixels : List ℕ) → ((u v : List ℕ) → text ≡ u ++ v → Opening u → ⊥) → (reading text name pixels).symbol ≡ name
unfolding reading stored
bare t name pixels h = go (opening t start) refl
  where
    go : (r : Result (Unit {0})) → opening t start ≡ r → overlay (stored_in (length name) t r) name ≡ name
    go (ok a e) q = let (x, (u, v, d, k, f, o)) = opening-fits.to t start e q in absurd (h u v (sym (start-rest t) ∙ d) k)
    go (stop c e) q = refl
    go (bad c e) q = refl

-- ---- in the claim's words

pub off : (g : ℕ → Bool) (l : List ℕ) → NotNext g l → Off g l
unfolding Off
off g [] h = tt
off g (b ∷ l) h = h

pub not-next : (g : ℕ → Bool) (l : List ℕ) → Off g l → NotNext g l
unfolding Off
not-next g [] h = tt
not-next g (b ∷ l) h = h

pub stores : (text name pixels w : List ℕ) → Stores (length name) text w → (reading text name pixels).symbol ≡ over w name
stores t name pixels w (unopened h) = bare t name pixels h
stores t name pixels w (opened u x v q o b a e) = stored-so t name pixels u w v q o (off blank (w ++ v) b) a (ends_so e)
  where
    ends_so : (NotNext solid v × (length w ≤ length name)) ⊎ (length w ≡ length name) → (Off solid v × (length w ≤ length name)) ⊎ (length w ≡ length name)
    ends_so (inl (k, l)) = inl (off solid v k, l)
    ends_so (inr k) = inr k

-- ---- every text has its symbol bytes

-- the solid bytes that a list begins with, so many at most
abbrev Solids : ℕ → List ℕ → Type 0
Solids n l = (w : List ℕ) × (v : List ℕ) × (l ≡ w ++ v) × All solid w × ((NotNext solid v × (length w ≤ n)) ⊎ (length w ≡ n))

solids : (n : ℕ) (l : List ℕ) → Solids n l
solids zero l = ([], l, refl, tt, inr refl)
solids (suc n) [] = ([], [], refl, tt, inl (tt, omega arith))
solids (suc n) (b ∷ l) = go (solid b) refl (solids n l)
  where
    go : (d : Bool) → solid b ≡ d → Solids n l → Solids (suc n) (b ∷ l)
    go false s r = ([], b ∷ l, refl, tt, inl (s, omega arith))
    go true s (w, v, q, a, inl (k, h)) = (b ∷ w, v, ap (λ (x : List ℕ). b ∷ x) q, (s, a), inl (k, omega arith))
    go true s (w, v, q, a, inr h) = (b ∷ w, v, ap (λ (x : List ℕ). b ∷ x) q, (s, a), inr (omega arith))

-- the blanks that a list begins with
abbrev Blanks : List ℕ → Type 0
Blanks l = (z : List ℕ) × (v : List ℕ) × (l ≡ z ++ v) × All blank z × Off blank v

blanks : (l : List ℕ) → Blanks l
unfolding Off
blanks [] = ([], [], refl, tt, tt)
blanks (b ∷ l) = go (blank b) refl (blanks l)
  where
    go : (d : Bool) → blank b ≡ d → (z : List ℕ) × (v : List ℕ) × (l ≡ z ++ v) × All blank z × Off blank v → (z : List ℕ) × (v : List ℕ) × (b ∷ l ≡ z ++ v) × All blank z × Off blank v
    go false s r = ([], b ∷ l, refl, tt, s)
    go true s (z, v, q, a, o) = (b ∷ z, v, ap (λ (x : List ℕ). b ∷ x) q, (s, a), o)

-- an opening with more blanks is one
widened : (u z : List ℕ) → Opening u → All blank z → Opening (u ++ z)
unfolding ◌·◌ Gap Some
widened u z (a, b, q, s, (c, d, r, l, (g, n))) h = (
  a,
  c ++ (d ++ z),
  ap (λ (x : List ℕ). x ++ z) q ∙ append_assoc a b z ∙ ap (λ (x : List ℕ). a ++ x) (ap (λ (x : List ℕ). x ++ z) r ∙ append_assoc c d z),
  s,
  (c, d ++ z, refl, l, (all_join blank d z g h, omega (arith, length-append d z))),
)

opens : (t u v : List ℕ) → t ≡ u ++ v → Opening u → (e : TextLocation) × (opening t start ≡ ok tt e)
opens t u v q o =
    let (z, r, s, a, f) = blanks v in
    (past start (u ++ z), opening-fits.from t start (u ++ z) r tt (start-rest t ∙ q ∙ ap (λ (x : List ℕ). u ++ x) s ∙ sym (append_assoc u z r)) (widened u z o a) f)

pub symbols : (text name : List ℕ) → (w : List ℕ) × Stores (length name) text w
symbols t name = go (opening t start) refl
  where
    go : (r : Result (Unit {0})) → opening t start ≡ r → (w : List ℕ) × Stores (length name) t w
    go (ok a e) q =
        let (x, (u, r, d, o, f, y)) = opening-fits.to t start e q in
        let (w, v, s, g, h) = solids (length name) r in
        (w, opened u w v (sym (start-rest t) ∙ d ∙ ap (λ (x : List ℕ). u ++ x) s) o (rw s at (not-next blank r f)) g h)
    go (stop c e) q = ([], unopened (λ u v d o. (let (m, k) = opens t u v d o in let z : ◌≡◌ {A = ℕ} 0 1 = cc in absurd (omega arith))))
    go (bad c e) q = ([], unopened (λ u v d o. (let (m, k) = opens t u v d o in let z : ◌≡◌ {A = ℕ} 0 1 = cc in absurd (omega arith))))
