-- A token and the leading lines can be saved.
use Rattle.std.proofs.Math.Path.{◌≡◌, refl, ap}
use Rattle.std.proofs.Common.{sym, ◌∙◌, arith, le_of_suc-le-suc, not-suc-le-zero, length-take-le}
use Rattle.std.specs.Prelude.{ℕ, zero, suc, ◌+◌, ◌≤◌, Bool, not, take, drop, eqb, ltb}
use Rattle.std.proofs.Math.Option.{none, some}
use Rattle.std.proofs.Math.Bool.{true, false}
use mathlib.Core.List.{List, [], ◌∷◌, ◌++◌, append_assoc, append-nil}
use Rattle.std.proofs.Math.ListN.{length, length-append}
use borrow.Author.Tests.{lt-ltb, le-ltb, not-true, ltb-true, ltb-false}
use Rattle.text.specs.declared.TextLocation.{TextLocation}
use Rattle.text.proofs.PlaceLaws.{sound-rest}
use Rattle.text.specs.Place.{pick, byte_of, rest, after, past}
use Rattle.text.specs.Rest.{Reach}
use Rattle.text.proofs.Rest.{reach-inside, rest-room}
use Rattle.text.specs.Reader.{Result, ok, stop, bad, end_of, Same, Placed}
use Rattle.text.proofs.Reader.{same-take, cut-end}
use Rattle.text.specs.Leaf.{run, scan, moved, go_on, stay, halt}
use Rattle.lexical.specs.Lexical.{is_loose, lead, leading}
use Rattle.lexical.proofs.Lexical.{leading-local}
use Rattle.lexical.specs.Token.{up_to, token}
use Rattle.lexical.proofs.TokenLaws.{token-local, token-mild}
use Rattle.grammar.specs.Lang.{Word, All, Star, stop as None-more}
use Rattle.grammar.specs.Grammar.{space, solid, Skipped}
use Rattle.grammar.proofs.Bind.{past-byte, move}
use Rattle.grammar.proofs.Fits.{Follow, Any, Off, Next}
use Rattle.grammar.proofs.Pieces.{token-fits, leading-fits, loose-is}
use Rattle.places.proofs.Saving.{Good, good-on, at-end, Way, finished, Saved, Able, Open, fits-keep, word-way, keep-rest, walk-word}

-- ---- a token: refused before one byte too many, and the bytes before that are a token

module _ (e : ℕ → Bool) (firm : (b : ℕ) → e b ≡ false → solid b ≡ true) (c lim d : ℕ) (o : TextLocation) where
  -- so many solid bytes were taken, and another follows
  abbrev pub Over : List ℕ → List ℕ → TextLocation → Type 0
  Over w l i = (v : List ℕ) × (b : ℕ) × (m : List ℕ) × (l ≡ v ++ (b ∷ m)) × (o ≡ past i v) × (length w + length v ≡ lim) × All solid (v ++ (b ∷ [])) × (d ≡ c)

  pub over : (w l : List ℕ) (i : TextLocation) → length w ≤ lim → scan c (up_to e lim) (λ w. some w) w l i ≡ stop d o → Over w l i
  over w [] i h q = let z : ◌≡◌ {A = ℕ} 0 1 = cc in absurd (omega arith)
  over w (b ∷ l) i h q = two (e b) (ltb (length w) lim) refl refl q (over (w ++ (b ∷ [])) l (after b i))
    where
      two : (x y : Bool) → e b ≡ x → ltb (length w) lim ≡ y → moved c i (pick x (stay w) (pick y (go_on (w ++ (b ∷ []))) halt)) (λ v. scan c (up_to e lim) (λ w. some w) v l (after b i)) ≡ stop d o
          → (length (w ++ (b ∷ [])) ≤ lim → scan c (up_to e lim) (λ w. some w) (w ++ (b ∷ [])) l (after b i) ≡ stop d o → Over (w ++ (b ∷ [])) l (after b i)) → Over w (b ∷ l) i
      two true y s k q f = let z : ◌≡◌ {A = ℕ} 0 1 = cc in absurd (omega arith)
      two false true s k q f =
          let (v, x, m, r, u, n, a, y) = f (omega (arith, length-append w (b ∷ []), ltb-true (length w) lim k)) q in
          (b ∷ v, x, m, ap (λ (z : List ℕ). b ∷ z) r, u, omega (arith, length-append w (b ∷ [])), (firm b s, a), y)
      two false false s k q f = let z : i ≡ o = cc in ([], b, l, refl, sym z, omega (arith, ltb-false (length w) lim k), (firm b s, tt), cc)

-- a byte that ends no token is solid
pub loose-solid : (b : ℕ) → is_loose b ≡ false → solid b ≡ true
loose-solid b q = ap not (ap (λ (f : ℕ → Bool). f b) (sym loose-is) ∙ q)

solid-loose : (b : ℕ) → solid b ≡ true → is_loose b ≡ false
solid-loose b q = ap (λ (f : ℕ → Bool). f b) loose-is ∙ not-true (space b) q

module _ (c lim : ℕ) (t : List ℕ) (i : TextLocation) where
  pub token-over : (d : ℕ) (o : TextLocation) → token is_loose c lim t i ≡ stop d o → Over is_loose loose-solid c lim d o [] (rest t i) i
  unfolding token run
  token-over d o q = over is_loose loose-solid c lim d o [] (rest t i) i (omega arith) q

  pub over-token : (w : List ℕ) (b : ℕ) (r : List ℕ) → rest t i ≡ w ++ (b ∷ r) → length w ≡ lim → All solid (w ++ (b ∷ [])) → token is_loose c lim t i ≡ stop c (past i w)
  unfolding token run
  over-token w b r q n a = ap (λ (l : List ℕ). scan c (up_to is_loose lim) (λ w. some w) [] l i) q ∙ go [] w i (omega arith) a
    where
      go : (v w : List ℕ) (i : TextLocation) → length v + length w ≡ lim → All solid (w ++ (b ∷ [])) → scan c (up_to is_loose lim) (λ w. some w) v (w ++ (b ∷ r)) i ≡ stop c (past i w)
      go v [] i n a = rw (solid-loose b a.0, le-ltb (length v) lim (omega arith)) refl
      go v (x ∷ w) i n a = rw (solid-loose x a.0, lt-ltb (length v) lim (omega arith)) (go (v ++ (x ∷ [])) w (after x i) (omega (arith, length-append v (x ∷ []))) a.1)

module _ (c : ℕ) {F : Follow} (k : (r : List ℕ) → F r → Off solid r) where
  keep : (t u : List ℕ) (i : TextLocation) (a : List ℕ) (m : TextLocation) → token is_loose c 11 t i ≡ ok a m → Same t u (byte_of m) → F (rest u m) → token is_loose c 11 u i ≡ ok a m
  keep = fits-keep {F = F} (λ w. All solid w × (length w ≤ 11)) Word (token-fits c 11) k

  pub token-able : Able (token is_loose c 11) F F
  unfolding Word
  token-able = record {
    local = token-local is_loose c 11;
    keeps = keep;
    empty = λ t i a q h. h;
    can = λ t i g. word-way (λ w. All solid w × (length w ≤ 11)) Word (token-fits c 11) k [] [] (tt, omega arith) refl (λ r h. h) t i g;
  }

  -- the bytes before the one too many are a token
  pub token-way : (t : List ℕ) (i : TextLocation) (d : ℕ) (o : TextLocation) → Good t i → token is_loose c 11 t i ≡ stop d o → Way (token is_loose c 11) F F t i (byte_of o)
  token-way t i d o g q =
      let (v, b, m, r, x, y, a, z) = token-over c 11 t i d o q in
      let f : byte_of o ≡ byte_of i + 11 = ap byte_of x ∙ past-byte i v ∙ omega arith in
      let w : Reach t i o = rw q at ((token-local is_loose c 11).reach t i) in
      let n : byte_of o ≤ length t = reach-inside t i w g.inside in
      let h : byte_of (end_of (token is_loose c 11 t i)) ≡ byte_of o = ap (λ (r : Result (List ℕ)). byte_of (end_of r)) q in
      go n f (token is_loose c 11 (take (byte_of o) t) i) refl (cut-end (token-local is_loose c 11) t i (byte_of o) (omega arith) n (omega arith))
    where
      go : byte_of o ≤ length t → byte_of o ≡ byte_of i + 11 → (r : Result (List ℕ)) → token is_loose c 11 (take (byte_of o) t) i ≡ r → byte_of (end_of (token is_loose c 11 (take (byte_of o) t) i)) ≡ byte_of o → Way (token is_loose c 11) F F t i (byte_of o)
      go n l (ok a m) r y =
          let x : byte_of m ≡ byte_of o = sym (ap (λ (r : Result (List ℕ)). byte_of (end_of r)) r) ∙ y in
          record {
            text = take (byte_of o) t;
            value = a;
            end = m;
            same = same-take (byte_of o) t;
            far = omega arith;
            reach = rw r at ((token-local is_loose c 11).reach (take (byte_of o) t) i);
            inside = omega (arith, length-take-le (byte_of o) t n);
            reads = λ u s h. keep (take (byte_of o) t) u i a m r s h;
            begins = λ z u s h. absurd (omega arith);
          }
      go n l (stop d m) r y =
          let (v, b, w, u, x, z, a, k) = token-over c 11 (take (byte_of o) t) i d m r in
          absurd (omega (arith, rest-room (take (byte_of o) t) i (omega (arith, length-take-le (byte_of o) t n)), length-take-le (byte_of o) t n, ap length u, length-append v (b ∷ w)))
      go n l (bad d m) r y = let z : Placed {A = List ℕ} (bad d m) = rw r at ((token-mild is_loose c 11).mild (take (byte_of o) t) i) in absurd z

-- ---- the leading lines: refused at the end alone; a newline and `#` save them

more_same : (t w : List ℕ) (n : ℕ) → n ≤ length t → Same t (t ++ w) n
more_same t w zero h j k = absurd (not-suc-le-zero k)
more_same [] w (suc n) h j k = absurd (not-suc-le-zero h)
more_same (x ∷ t) w (suc n) h zero k = refl
more_same (x ∷ t) w (suc n) h (suc j) k = more_same t w n (le_of_suc-le-suc h) j (le_of_suc-le-suc k)

more-drop : (n : ℕ) (t w : List ℕ) → n ≤ length t → drop n (t ++ w) ≡ drop n t ++ w
more-drop zero t w h = refl
more-drop (suc n) [] w h = absurd (not-suc-le-zero h)
more-drop (suc n) (x ∷ t) w h = more-drop n t w (le_of_suc-le-suc h)

more-rest : (t : List ℕ) (i : TextLocation) (w : List ℕ) → Good t i → rest (t ++ w) i ≡ rest t i ++ w
more-rest t i w g =
    sound-rest (t ++ w) i g.sound ∙ more-drop (byte_of i) t w g.inside ∙ ap (λ (l : List ℕ). l ++ w) (sym (sound-rest t i g.sound))

module _ (c d : ℕ) (e : TextLocation) where
  abbrev scanned : Bool → List ℕ → TextLocation → Result (Unit {0})
  scanned s l i = scan c lead (λ s. none) s l i

  all-taken : (s : Bool) (l : List ℕ) (i : TextLocation) → scanned s l i ≡ stop d e → e ≡ past i l
  all-taken s [] i q = cc
  all-taken true (b ∷ l) i q = two (eqb b 35) q (all-taken (eqb b 10) l (after b i))
    where
      two : (x : Bool) → moved c i (pick x (stay tt) (go_on (eqb b 10))) (λ s. scanned s l (after b i)) ≡ stop d e → (scanned (eqb b 10) l (after b i) ≡ stop d e → e ≡ past (after b i) l) → e ≡ past (after b i) l
      two true q f = let z : ◌≡◌ {A = ℕ} 0 1 = cc in absurd (omega arith)
      two false q f = f q
  all-taken false (b ∷ l) i q = all-taken (eqb b 10) l (after b i) q

  line-more : (s : Bool) (l r : List ℕ) (i : TextLocation) → scanned s l i ≡ stop d e → Next 35 r → scanned s (l ++ (10 ∷ r)) i ≡ ok tt (past i (l ++ (10 ∷ [])))
  unfolding Next
  line-more true [] [] i q k = absurd k
  line-more true [] (x ∷ r) i q k = rw k refl
  line-more false [] [] i q k = absurd k
  line-more false [] (x ∷ r) i q k = rw k refl
  line-more true (b ∷ l) r i q k = two (eqb b 35) q (λ h. line-more (eqb b 10) l r (after b i) h k)
    where
      two : (x : Bool) → moved c i (pick x (stay tt) (go_on (eqb b 10))) (λ s. scanned s l (after b i)) ≡ stop d e → (scanned (eqb b 10) l (after b i) ≡ stop d e → scanned (eqb b 10) (l ++ (10 ∷ r)) (after b i) ≡ ok tt (past (after b i) (l ++ (10 ∷ []))))
          → moved c i (pick x (stay tt) (go_on (eqb b 10))) (λ s. scanned s (l ++ (10 ∷ r)) (after b i)) ≡ ok tt (past (after b i) (l ++ (10 ∷ [])))
      two true q f = let z : ◌≡◌ {A = ℕ} 0 1 = cc in absurd (omega arith)
      two false q f = f q
  line-more false (b ∷ l) r i q k = line-more (eqb b 10) l r (after b i) q k

pub leading-open : Open (leading 1 true) (Next 35) Any
unfolding leading run Any
leading-open = record {
  able = record {
    local = leading-local 1 true;
    keeps = fits-keep {F = Next 35} (λ b. Unit {0}) (λ b. Star Skipped) (λ b. leading-fits) (λ r h. h);
    empty = λ t i a q h. tt;
    can = λ t i g. word-way (λ b. Unit {0}) (λ b. Star Skipped) (λ b. leading-fits) (λ r h. h) tt [] tt None-more (λ r h. tt) t i g;
  };
  saves = λ t i d e g q. save t i d e g q;
}
  where
    save : (t : List ℕ) (i : TextLocation) (d : ℕ) (e : TextLocation) → Good t i → scan 1 lead (λ s. none) true (rest t i) i ≡ stop d e → Saved (λ t i. scan 1 lead (λ s. none) true (rest t i) i) (Next 35) (λ r. Unit {0}) t i d e
    save t i d e g q =
        let l = rest t i in
        let z : e ≡ past i l = all-taken 1 d e true l i q in
        let n : byte_of e ≡ byte_of i + length l = ap byte_of z ∙ past-byte i l in
        let f : byte_of e ≤ length t = omega (arith, rest-room t i g.inside) in
        let o : rest t e ≡ [] = ap (rest t) z ∙ move l [] t i (sym (append-nil l)) in
        let w : Reach t i e = rw z (rw (append-nil l) at (walk-word l [] i)) in
        let m : byte_of (past i (l ++ (10 ∷ []))) ≡ byte_of e + 1 = past-byte i (l ++ (10 ∷ [])) ∙ omega (arith, length-append l (10 ∷ [])) in
        let r : rest (t ++ (10 ∷ [])) i ≡ l ++ (10 ∷ []) = more-rest t i (10 ∷ []) g in (
          byte_of e,
          omega arith,
          finished refl (at-end t e (good-on g w) o),
          record {
            text = t ++ (10 ∷ []);
            value = tt;
            end = past i (l ++ (10 ∷ []));
            same = more_same t (10 ∷ []) (byte_of e) f;
            far = omega arith;
            reach = rw r (rw (append-nil (l ++ (10 ∷ []))) at (walk-word (l ++ (10 ∷ [])) [] i));
            inside = omega (arith, length-append t (10 ∷ []));
            reads = λ u s h. ap (λ (x : List ℕ). scan 1 lead (λ s. none) true x i) (keep-rest (l ++ (10 ∷ [])) (t ++ (10 ∷ [])) u [] i (r ∙ sym (append-nil (l ++ (10 ∷ [])))) s ∙ append_assoc l (10 ∷ []) (rest u (past i (l ++ (10 ∷ []))))) ∙ line-more 1 d e true l (rest u (past i (l ++ (10 ∷ [])))) i q h;
            begins = λ z u s h. tt;
          },
        )
