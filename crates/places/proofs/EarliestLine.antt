-- The earliest place in a define line: its token is too long, or the bytes can be saved as elsewhere. For any line of a head, a token and an end.
use Rattle.std.proofs.Math.Path.{◌≡◌, refl, sym, ap}
use Rattle.std.proofs.Common.{◌∙◌, arith}
use Prim.Native.Nat.{ℕ, suc, ◌≤◌, ◌<◌}
use mathlib.Core.List.{List, [], ◌∷◌, ◌++◌, append_assoc}
use Rattle.std.proofs.Math.ListN.{length, take, drop, length-append}
use Rattle.text.specs.declared.TextLocation.{TextLocation}
use Rattle.text.specs.Place.{byte_of, rest, start, past}
use Rattle.text.proofs.Rest.{walk-ahead, reach-inside}
use Rattle.text.specs.Reader.{Result, ok, stop, bad, then, Reader, ◌>>=◌, Same, Local}
use Rattle.text.specs.Leaf.{give}
use Rattle.lexical.specs.Lexical.{is_loose, line_end}
use Rattle.lexical.specs.Token.{token}
use Rattle.lexical.proofs.TokenLaws.{token-local}
use Rattle.symbol.specs.Symbol.{hash_define}
use Rattle.grammar.specs.Lang.{Lang, Word, ◌·◌, All}
use Rattle.grammar.specs.Grammar.{blank, solid, Define}
use Rattle.grammar.proofs.Exact.{start-rest}
use Rattle.grammar.proofs.Bind.{past-byte, move}
use Rattle.grammar.proofs.Fits.{Follow, Any, Off, Next, At, Fits}
use Rattle.grammar.proofs.Pieces.{begin, solid-blank, gap-fits, fit-fixed, fit-gap, fit-two}
use Rattle.claims.specs.Terms.{Begun}
use Rattle.refusals.specs.Terms.{Token}
use Rattle.refusals.proofs.Lines.{raw, known, known-fits}
use Rattle.refusals.proofs.HeaderRows.{begun-in, begun-out}
use Rattle.refusals.proofs.Stages.{chain, at_both, at-parts, one_end, read_at, begun}
use Rattle.places.specs.Terms.{Named}
use Rattle.places.specs.Savable.{TooLong, SavableLine, short, long}
use Rattle.places.proofs.Saving.{Good, good-on, front_same, walk-word, Way, Saved, Able, Open, fits-keep, way-first, way-second, saved-first, saved-second, bind-able}
use Rattle.places.proofs.SavingLeaves.{next-off}
use Rattle.places.proofs.SavingRuns.{token-over, over-token, token-able, token-way}
use Rattle.places.proofs.SavingParts.{headed, headed-open, valued, lined-open, valued-able}
use Rattle.places.proofs.EarliestLift.{same-split, good_start, savable}

-- a refusal at e: not by the token's length, or by it
pub data Refused {A B : Type 0} (c : ℕ) (head : Reader A) (f : A → List ℕ → B) (G : Follow) (t : List ℕ) (i e : TextLocation) : Type 0 where
  other : Saved (head >>= valued c f) Any G t i c e → ((a : A) (m : TextLocation) (d : ℕ) (o : TextLocation) → head t i ≡ ok a m → token is_loose c 11 t m ≡ stop d o → ⊥) → Refused c head f G t i e
  over : (a : A) (m : TextLocation) → head t i ≡ ok a m → token is_loose c 11 t m ≡ stop c e → Way (head >>= valued c f) Any G t i (byte_of e) → Refused c head f G t i e

module _ {A B : Type 0} (c : ℕ) (head : Reader A) (f : A → List ℕ → B) {G : Follow} (able : Able head (Next 10) G) (t : List ℕ) (i : TextLocation) (g : Good t i) (e : TextLocation) where
  pub line-local : Local (head >>= valued c f)
  line-local = (bind-able able (λ a. valued-able c f a)).local

  pub refused : ((d : ℕ) (o : TextLocation) → head t i ≡ stop d o → Saved head (Next 10) G t i d o) → (head >>= valued c f) t i ≡ stop c e → Refused c head f G t i e
  unfolding ◌>>=◌
  refused saves q = first (head t i) refl q
    where
      second : (a : A) (m : TextLocation) → head t i ≡ ok a m → (r : Result (List ℕ)) → token is_loose c 11 t m ≡ r → then r (λ w n. (line_end c >>= λ x. give (f a w)) t n) ≡ stop c e → Refused c head f G t i e
      second a m u (ok w n) v x =
          let k : Good t m = good-on g (rw u at (able.local.reach t i)) in
          let l : Good t n = good-on k (rw v at ((token-local is_loose c 11).reach t m)) in
          other (saved-second (valued c f) able t i a m c e u (saved-second (λ w. line_end c >>= λ x. give (f a w)) (token-able c (next-off solid 10 refl)) t m w n c e v ((lined-open c (f a w)).saves t n c e l x)))
          (λ b o d p y z. (let s : m ≡ o = cc (u, y) in let h : token is_loose c 11 t m ≡ stop d p = rw (← s) at z in let j : ◌≡◌ {A = ℕ} 0 1 = cc (v, h) in omega arith))
      second a m u (stop d n) v x =
          let k : Good t m = good-on g (rw u at (able.local.reach t i)) in
          let y : token is_loose c 11 t m ≡ stop c e = v ∙ cc in
          let w : byte_of m ≤ byte_of e = walk-ahead (rw y at ((token-local is_loose c 11).reach t m)) in
          over a m u y (way-second (valued c f) able t i a m (byte_of e) u w (way-first (token-able c (next-off solid 10 refl)) (λ w. (lined-open c (f a w)).able) t m (byte_of e) k (token-way c (next-off solid 10 refl) t m c e k y)))
      second a m u (bad d n) v x = let z : ◌≡◌ {A = ℕ} 0 1 = cc in absurd (omega arith)

      first : (r : Result A) → head t i ≡ r → then r (λ a m. valued c f a t m) ≡ stop c e → Refused c head f G t i e
      first (ok a m) u x = second a m u (token is_loose c 11 t m) refl x
      first (stop d o) u x =
          let y : head t i ≡ stop c e = u ∙ cc in
          other (saved-first able (λ a. valued-able c f a) t i c e g (saves c e y)) (λ b m d p v z. (let j : ◌≡◌ {A = ℕ} 0 1 = cc (u, v) in omega arith))
      first (bad d o) u x = let z : ◌≡◌ {A = ℕ} 0 1 = cc in absurd (omega arith)

  -- in the claim's words: K is what precedes the token, L a text with the whole line
  pub line-lift : (K L : Lang) → ((x : List ℕ) → Same t x (byte_of i) → (v : B) (o : TextLocation) → (head >>= valued c f) x i ≡ ok v o → L x)
      → ((u : List ℕ) → Same t u (byte_of i) → (head >>= valued c f) u i ≡ stop c e → L u → ⊥)
      → ((n : ℕ) → TooLong K t n → (a : A) × (m : TextLocation) × (d : ℕ) × (o : TextLocation) × (head t i ≡ ok a m) × (token is_loose c 11 t m ≡ stop d o))
      → ((a : A) (m : TextLocation) → head t i ≡ ok a m → (w : List ℕ) (b : ℕ) (r : List ℕ) → rest t m ≡ w ++ (b ∷ r) → length w ≡ 11 → All solid (w ++ (b ∷ [])) → TooLong K t (byte_of (past m w)))
      → (head >>= valued c f) t i ≡ stop c e → Refused c head f G t i e → SavableLine t e K L
  unfolding Any
  line-lift K L whole none reads tells q (other (n, l, k, w) never) =
      short (λ j x. (let (a, m, d, o, h, y) = reads j x in never a m d o h y))
      (savable L t i c e n (reach-inside t i (rw q at (line-local.reach t i)) g.inside) l k w.text w.same
      (whole w.text (λ j b. w.same j (omega arith)) w.value w.end (w.reads w.text (λ j b. refl) tt)) none)
  line-lift K L whole none reads tells q (over a m h y w) =
      let (v, b, r, z, x, n, s, j) = token-over c 11 t m c e y in
      let inside : byte_of e ≤ length t = reach-inside t i (rw q at (line-local.reach t i)) g.inside in
      let more : suc (byte_of e) ≤ length t = longer (byte_of (past m v)) (tells a m h v b r z (omega arith) s) (ap byte_of x) in
      let split : w.text ≡ take (byte_of e) t ++ drop (byte_of e) w.text = same-split (byte_of e) t w.text inside w.same in
      let ahead : byte_of i ≤ byte_of e = walk-ahead (rw q at (line-local.reach t i)) in
      long (rw x (tells a m h v b r z (omega arith) s)) (drop (byte_of e) w.text, rw split at (whole w.text (λ j b. w.same j (omega arith)) w.value w.end (w.reads w.text (λ j b. refl) tt)))
      (λ v l. (let o : Same t (take (suc (byte_of e)) t ++ v) (suc (byte_of e)) = front_same (suc (byte_of e)) t v more in
      none (take (suc (byte_of e)) t ++ v) (λ j b. o j (omega arith)) (line-local.near t (take (suc (byte_of e)) t ++ v) i (rw q o) ∙ q) l))
    where
      longer : (n : ℕ) → TooLong K t n → byte_of e ≡ n → suc (byte_of e) ≤ length t
      longer n (u, a, b, r, f, k, x, y, z) p = omega (arith, ap length f, length-append u (a ++ (b ∷ r)), length-append a (b ∷ r), length-append u a)

-- ---- a line whose symbol is known, after what stands before it

pub off-blank : (w r : List ℕ) → 0 < length w → All solid w → Off blank (w ++ r)
unfolding Off
off-blank [] r n a = absurd (omega arith)
off-blank (x ∷ w) r n a = solid-blank x a.0

pub all-front : (w v : List ℕ) → All solid (w ++ v) → All solid w
all-front [] v a = tt
all-front (x ∷ w) v a = (a.0, all-front w v a.1)

headed-fits : (c : ℕ) (name z : List ℕ) → All solid name → Fits (headed c name (95 ∷ z)) tt (Unit {0}) (Named (Word (name ++ (95 ∷ z)))) (Off blank)
unfolding headed
headed-fits c name z s = fit-fixed c hash_define (λ a. fit-gap c (search begin) (λ a. fit-two c name (95 ∷ z) (λ a. gap-fits c)))

known_is : (c : ℕ) (name z : List ℕ) → known c name z ≡ (headed c name z >>= valued c (λ x w. w))
unfolding known headed raw
known_is c name z = sym (chain _ _ _ (λ a. chain _ _ _ (λ b. chain _ _ _ (λ d. chain _ _ _ (λ e. refl)))))

module _ {A : Type 0} (c : ℕ) (pre : Reader A) (K : A → Lang) (name_of : A → List ℕ) (z : List ℕ) (fits : (a : A) → Fits pre a (Unit {0}) (K a) Any) (holds : (a : A) (w : List ℕ) → K a w → All solid (name_of a)) (t : List ℕ) (e : TextLocation) (a : A) (m : TextLocation) (u : pre t start ≡ ok a m) where
  abbrev S : Lang
  S = Word (name_of a ++ (95 ∷ z))

  abbrev line : Reader (List ℕ)
  line = headed c (name_of a) (95 ∷ z) >>= valued c (λ x w. w)

  there : At (K a) Any t start m
  there = ((read_at (fits a) t start m).0 u).1

  named : All solid (name_of a)
  named = let (w, r, d, k, f, o) = there in holds a w k

  good : Good t m
  good = at there
    where
      at : At (K a) Any t start m → Good t m
      at (w, r, d, k, f, o) = good-on (good_start t) (rw (d, o) (walk-word w r start))

  again : (y : List ℕ) → Same t y (byte_of m) → pre y start ≡ ok a m
  unfolding Any
  again y s = fits-keep {F = λ r. Unit {0}} (λ b. Unit {0}) K fits (λ r h. tt) t y start a m u s tt

  is-line : (y : List ℕ) (r : Result (List ℕ)) → (line y m ≡ r) → known c (name_of a) (95 ∷ z) y m ≡ r
  is-line y r q = ap (λ (p : Reader (List ℕ)). p y m) (known_is c (name_of a) (95 ∷ z)) ∙ q

  whole : (x : List ℕ) → Same t x (byte_of m) → (v : List ℕ) (o : TextLocation) → line x m ≡ ok v o → Begun (K a · Define S Token) x
  whole x s v o q =
      let (y, l) = (known-fits c (name_of a) z v named).to x m o (is-line x (ok v o) q) in
      begun-in (K a) S Token v x ((begun (K a · Define S (Word v)) x).0 (o, at_both (K a) (Define S (Word v)) x start m o ((read_at (fits a) x start m).0 (again x s)).1 l)) y

  none-there : (y : List ℕ) → Same t y (byte_of m) → line y m ≡ stop c e → Begun (K a · Define S Token) y → ⊥
  none-there y s q b =
      let (v, x, d) = begun-out (K a) S Token y b in
      let (n, l) = (begun (K a · Define S (Word v)) y).1 d in
      let (i, p, k) = at-parts (K a) (Define S (Word v)) y start n l in
      let same : i ≡ m = one_end (fits a) y start i m p ((read_at (fits a) y start m).0 (again y s)).1 in
      let r : known c (name_of a) (95 ∷ z) y m ≡ ok v n = rw same at ((read_at (known-fits c (name_of a) z v named) y i n).1 (x, k)) in
      let j : ◌≡◌ {A = ℕ} 0 1 = cc (is-line y (stop c e) q, r) in omega arith

  reads : (n : ℕ) → TooLong (K a · Named S) t n → (x : Unit {0}) × (i : TextLocation) × (d : ℕ) × (o : TextLocation) × (headed c (name_of a) (95 ∷ z) t m ≡ ok x i) × (token is_loose c 11 t i ≡ stop d o)
  unfolding ◌·◌ Any
  reads n (x, w, b, v, q, (x1, y, x2, k, h), l, eleven, s) =
      let all : t ≡ x1 ++ (y ++ (w ++ (b ∷ v))) = q ∙ ap (λ (r : List ℕ). r ++ (w ++ (b ∷ v))) x2 ∙ append_assoc x1 y (w ++ (b ∷ v)) in
      let begins : rest t start ≡ x1 ++ (y ++ (w ++ (b ∷ v))) = start-rest t ∙ all in
      let same : past start x1 ≡ m = one_end (fits a) t start (past start x1) m (x1, y ++ (w ++ (b ∷ v)), begins, k, tt, refl) there in
      let here : rest t m ≡ y ++ (w ++ (b ∷ v)) = rw same at (move x1 (y ++ (w ++ (b ∷ v))) t start begins) in
      let i = past m y in (
        tt,
        i,
        c,
        past i w,
        (headed-fits c (name_of a) z named).from t m y (w ++ (b ∷ v)) tt here h (off-blank w (b ∷ v) (omega arith) (all-front w (b ∷ []) s)),
        over-token c 11 t i w b v (move y (w ++ (b ∷ v)) t m here) eleven s,
      )

  tells : (x : Unit {0}) (i : TextLocation) → headed c (name_of a) (95 ∷ z) t m ≡ ok x i → (w : List ℕ) (b : ℕ) (r : List ℕ) → rest t i ≡ w ++ (b ∷ r) → length w ≡ 11 → All solid (w ++ (b ∷ [])) → TooLong (K a · Named S) t (byte_of (past i w))
  unfolding ◌·◌
  tells x i h w b r q eleven s =
      let (x1, r1, d1, k1, f1, o1) = there in
      let (j, (y, r2, d2, k2, f2, o2)) = (headed-fits c (name_of a) z named).to t m i h in
      let p1 : r1 ≡ y ++ r2 = sym (move x1 r1 t start d1) ∙ ap (rest t) (sym o1) ∙ d2 in
      let p2 : r2 ≡ w ++ (b ∷ r) = sym (move y r2 t m d2) ∙ ap (rest t) (sym o2) ∙ q in
      let all : t ≡ (x1 ++ y) ++ (w ++ (b ∷ r)) = sym (start-rest t) ∙ d1 ∙ ap (λ (l : List ℕ). x1 ++ l) (p1 ∙ ap (λ (l : List ℕ). y ++ l) p2) ∙ sym (append_assoc x1 y (w ++ (b ∷ r))) in
      (x1 ++ y, w, b, r, all, (x1, y, refl, k1, k2), omega (arith, past-byte i w, ap byte_of o2, past-byte m y, ap byte_of o1, past-byte start x1, length-append (x1 ++ y) w, length-append x1 y), eleven, s)

  pub at-known : known c (name_of a) (95 ∷ z) t m ≡ stop c e → SavableLine t e (K a · Named S) (Begun (K a · Define S Token))
  at-known q =
      let x : line t m ≡ stop c e = ap (λ (p : Reader (List ℕ)). p t m) (sym (known_is c (name_of a) (95 ∷ z))) ∙ q in
      let opens : Open (headed c (name_of a) (95 ∷ z)) (Next 10) (Next 35) = headed-open c (name_of a) z named in
      line-lift c (headed c (name_of a) (95 ∷ z)) (λ x w. w) opens.able t m good e (K a · Named S) (Begun (K a · Define S Token)) whole none-there reads tells x
      (refused c (headed c (name_of a) (95 ∷ z)) (λ x w. w) opens.able t m good e (λ d o y. opens.saves t m d o good y) x)
