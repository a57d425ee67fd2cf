-- The header's checks that look ahead, line by line: what stands before the place, in words of the grammar, and the byte that they looked at.
use Rattle.std.proofs.Math.Path.{◌≡◌, refl, ap}
use Rattle.std.proofs.Common.{sym, ◌∙◌, inl, arith, length-append, ltb-true, ltb-false, eqb-true}
use Rattle.std.specs.Prelude.{◌⊎◌, ℕ, ◌≤◌, ◌<◌, Bool, true, false, not, ◌||◌, eqb, ltb, ℤ}
use Rattle.std.proofs.Math.Logic.{inr}
use Rattle.std.proofs.Math.Option.{Option, none, some}
use mathlib.Core.List.{List, [], ◌∷◌, ◌++◌, append_assoc}
use Rattle.std.proofs.Math.ListN.{length}
use Rattle.text.specs.declared.TextLocation.{TextLocation}
use Rattle.text.specs.Ascii.{ascii}
use Rattle.text.specs.Place.{pick, byte_of, rest, after, start, past}
use Rattle.text.specs.Reader.{Reader, ◌>>=◌, Local}
use Rattle.text.proofs.Reader.{bind-local}
use Rattle.text.specs.Leaf.{give, want, need, moved, scan, run, go_on, stay, halt}
use Rattle.text.proofs.Leaf.{give-local, want-local, need-local, fork-local}
use Rattle.lexical.specs.Lexical.{is_loose, fixed, gap, line_end, leading}
use Rattle.lexical.proofs.Lexical.{fixed-local, gap-local, line_end-local, leading-local}
use Rattle.lexical.specs.Token.{up_to, token}
use Rattle.lexical.proofs.TokenLaws.{token-local}
use Rattle.symbol.specs.Symbol.{hash_define, end_width, before}
use Rattle.lines.specs.Lines.{value, line, side, signed, unsigned, positive, width_line}
use Rattle.lines.proofs.Lines.{array-local}
use Rattle.header.specs.Header.{ending, hotspot, rest as headerRest, header}
use Rattle.rows.proofs.RowsLaws.{whole-local}
use Rattle.image.specs.Reading.{picture}
use Rattle.grammar.specs.Lang.{Lang, Word, Lit, ◌·◌, All, Star}
use Rattle.grammar.specs.Grammar.{blank, space, solid, Gap, Skipped, Define, Symbol, Side, Coordinate}
use Rattle.grammar.proofs.Bind.{past-append, past-byte, move}
use Rattle.grammar.proofs.Tests.{before→ends, ends→before, want-inv}
use Rattle.grammar.proofs.Fits.{Follow, Any, Off, At, Fits}
use Rattle.grammar.proofs.Pieces.{loose-is, fixed-fits, gap-fits, token-fits, leading-fits}
use Rattle.grammar.proofs.Lines.{all_left, height-fits, hot-fits}
use Rattle.grammar.proofs.Exact.{start-rest}
use Rattle.claims.specs.Terms.{Opening}
use Rattle.refusals.specs.Terms.{Front, Sides, Third}
use Rattle.refusals.proofs.Stages.{assoc, at_both}
use Rattle.refusals.proofs.Lines.{weak, next}
use Rattle.refusals.proofs.HeaderRows.{first, first_fits, front-name, sketch}
use Rattle.places.specs.Terms.{Named, Lead, width, height, x-hot, y-hot, Looked, long-symbol, no-width, long-token}
use Rattle.places.proofs.Sharp.{Looks, Never, saw, Sure, Sharp, sharp-weak, bind-looks, first-looks, whole-sharp, fixed-sharp, gap-sharp, line_end-sharp, leading-sharp, fork-sharp, need-sharp, give-sharp, array-sharp}

-- ---- one check after words of the grammar

-- after a word of K a check looked, as P says
pub record After (K : Lang) (P : Looks) (t : List ℕ) (i : TextLocation) (c : ℕ) (e : TextLocation) : Type 0 where
  pub place : TextLocation
  pub word : At K Any t i place
  pub check : P t place c e

-- a reader whose checks look as P says
pub record Checked {A : Type 0} (P : Looks) (p : Reader A) : Type 0 where
  pub near : Local p
  pub sharp : Sharp P p

pub checked-weak : {A : Type 0} {P Q : Looks} {p : Reader A} → ((t : List ℕ) (i : TextLocation) (c : ℕ) (e : TextLocation) → P t i c e → Q t i c e) → Checked P p → Checked Q p
checked-weak k h = record { near = h.near; sharp = sharp-weak k h.sharp }

run-checks : {B : Type 0} {p : Reader (Unit {0})} {f : Unit {0} → Reader B} {K : Lang} {F : Follow} {P : Looks} → Fits p tt (Unit {0}) K F → Checked Never p → ((a : Unit {0}) → Checked P (f a)) → Checked (After K P) (p >>= f)
unfolding Never
run-checks {K = K} {F = F} {P = P} h hp hf = record {
  near = bind-local hp.near (λ a. (hf a).near);
  sharp = bind-looks (λ a. P) hp.near (λ a. (hf a).near) hp.sharp (λ a. (hf a).sharp) (λ t i c e x. absurd x) (λ t i a m c e q x. record { place = m; word = weak K F t i m (h.to t i m q).1; check = x });
}

-- and what follows the word is as the reader left it
run-follows : {B : Type 0} {p : Reader (Unit {0})} {f : Unit {0} → Reader B} {K : Lang} {F : Follow} {P : Looks} → Fits p tt (Unit {0}) K F → Checked Never p → ((a : Unit {0}) → Checked P (f a))
    → Checked (After K (λ t i c e. F (rest t i) × P t i c e)) (p >>= f)
unfolding Never
run-follows {K = K} {F = F} {P = P} h hp hf = record {
  near = bind-local hp.near (λ a. (hf a).near);
  sharp = bind-looks (λ a. P) hp.near (λ a. (hf a).near) hp.sharp (λ a. (hf a).sharp) (λ t i c e x. absurd x) (λ t i a m c e q x. go t i m c e (h.to t i m q).1 x);
}
  where
    go : (t : List ℕ) (i m : TextLocation) (c : ℕ) (e : TextLocation) → At K F t i m → P t m c e → After K (λ t i c e. F (rest t i) × P t i c e) t i c e
    go t i m c e (w, r, d, l, f, o) x = record { place = m; word = weak K F t i m (w, r, d, l, f, o); check = (rw (ap (rest t) o ∙ move w r t i d) f, x) }

-- after the first none looks
first-checks : {A B : Type 0} {p : Reader A} {f : A → Reader B} {P : Looks} → Checked P p → ((a : A) → Checked Never (f a)) → Checked P (p >>= f)
first-checks hp hf = record { near = bind-local hp.near (λ a. (hf a).near); sharp = first-looks hp.near (λ a. (hf a).near) hp.sharp (λ a. (hf a).sharp) }

fixed-checks : (c : ℕ) (w : List ℕ) → Checked Never (fixed c w)
fixed-checks c w = record { near = fixed-local c w; sharp = fixed-sharp c w }

gap-checks : (c : ℕ) → Checked Never (gap c)
gap-checks c = record { near = gap-local c; sharp = gap-sharp c }

line_end-checks : (c : ℕ) → Checked Never (line_end c)
line_end-checks c = record { near = line_end-local c; sharp = line_end-sharp c }

need-checks : {A : Type 0} (c : ℕ) (o : Option A) → Checked Never (need c o)
need-checks c o = record { near = need-local c o; sharp = need-sharp c o }

give-checks : {A : Type 0} (a : A) → Checked Never (give a)
give-checks a = record { near = give-local a; sharp = give-sharp a }

module _ (P : Looks) (t : List ℕ) (i : TextLocation) (c : ℕ) (e : TextLocation) where
  flat : (K L : Lang) → After K (After L P) t i c e → After (K · L) P t i c e
  flat K L x = record { place = x.check.place; word = at_both K L t i x.place x.check.place x.word x.check.word; check = x.check.check }

  same-words : (K L : Lang) → ((w : List ℕ) → K w → L w) → After K P t i c e → After L P t i c e
  same-words K L g x = record { place = x.place; word = go x.word; check = x.check }
    where
      go : At K Any t i x.place → At L Any t i x.place
      go (w, r, d, k, f, o) = (w, r, d, g w k, f, o)

  deep : (K : Lang) (Q : Looks) → ((m : TextLocation) → P t m c e → Q t m c e) → After K P t i c e → After K Q t i c e
  deep K Q g x = record { place = x.place; word = x.word; check = g x.place x.check }

two-words : (v w u : List ℕ) → (Word v · Word w) u → Word (v ++ w) u
unfolding ◌·◌ Word
two-words v w u (a, b, q, k, l) = q ∙ cc (k, l)

-- ---- a token too long

-- lim solid bytes stand here, and one more
abbrev pub Long : ℕ → ℕ → Looks
Long n lim t i c e =
    (c ≡ n) × (w : List ℕ) × (b : ℕ) × (v : List ℕ) × (rest t i ≡ w ++ (b ∷ v)) × All solid w × (length w ≡ lim) × (solid b ≡ true) × (e ≡ past i w)

pub all_end : (w : List ℕ) (b : ℕ) → All solid w → solid b ≡ true → All solid (w ++ (b ∷ []))
all_end [] b a q = (q, tt)
all_end (x ∷ w) b a q = (a.0, all_end w b a.1 q)

space-looks : (c lim : ℕ) → Sharp (Long c lim) (token space c lim)
unfolding token run
space-looks c lim = record { sharp = λ t i. go t i [] (rest t i) i refl tt refl (omega arith) }
  where
    go : (t : List ℕ) (j : TextLocation) (w l : List ℕ) (i : TextLocation) → rest t j ≡ w ++ l → All solid w → i ≡ past j w → length w ≤ lim
        → Sure (Long c lim) (λ t i. scan c (up_to space lim) (λ w. some w) [] (rest t i) i) t j (scan c (up_to space lim) (λ w. some w) w l i)
    go t j w [] i q a z n = tt
    go t j w (b ∷ l) i q a z n = two (space b) (ltb (length w) lim) refl refl (λ s k. go t j (w ++ (b ∷ [])) l (after b i) (q ∙ sym (append_assoc w (b ∷ []) l)) (all_end w b a s) (ap (after b) z ∙ sym (past-append j w (b ∷ []))) (omega (arith, length-append w (b ∷ []))))
      where
        two : (d f : Bool) → space b ≡ d → ltb (length w) lim ≡ f
            → (solid b ≡ true → length w < lim → Sure (Long c lim) (λ t i. scan c (up_to space lim) (λ w. some w) [] (rest t i) i) t j (scan c (up_to space lim) (λ w. some w) (w ++ (b ∷ [])) l (after b i)))
            → Sure (Long c lim) (λ t i. scan c (up_to space lim) (λ w. some w) [] (rest t i) i) t j (moved c i (pick d (stay w) (pick f (go_on (w ++ (b ∷ []))) halt)) (λ v. scan c (up_to space lim) (λ w. some w) v l (after b i)))
        two true f s k h = tt
        two false true s k h = h (ap not s) (ltb-true (length w) lim k)
        two false false s k h = saw (refl, w, b, l, q, a, omega (arith, ltb-false (length w) lim k), ap not s, z)

token-looks : (c lim : ℕ) → Sharp (Long c lim) (token is_loose c lim)
token-looks c lim = rw loose-is (space-looks c lim)

-- ---- the integer of a define line

token-checks : (c lim : ℕ) → Checked (Long c lim) (token is_loose c lim)
token-checks c lim = record { near = token-local is_loose c lim; sharp = token-looks c lim }

value-checks : {A : Type 0} (c : ℕ) (f : List ℕ → Reader A) → ((w : List ℕ) → Checked Never (f w)) → Checked (After Gap (Long c 11)) (value c f)
value-checks c f h = run-checks (gap-fits c) (gap-checks c) (λ a. first-checks (token-checks c 11) (λ w. first-checks (line_end-checks c) (λ a. h w)))

-- a line whose symbol is known
line-checks : {A : Type 0} (c : ℕ) (name z : List ℕ) (f : List ℕ → Reader A) → ((w : List ℕ) → Checked Never (f w)) → Checked (After (Named (Word (name ++ z))) (Long c 11)) (line c name z f)
line-checks c name z f h =
    checked-weak (λ t i d e x. flat (Long c 11) t i d e (Lit "#define") (Gap · Word (name ++ z) · Gap) (deep _ t i d e (Lit "#define") _ (λ m y. flat (Long c 11) t m d e Gap (Word (name ++ z) · Gap) (deep _ t m d e Gap _ (λ n u. flat (Long c 11) t n d e (Word (name ++ z)) Gap (same-words (After Gap (Long c 11)) t n d e (Word name · Word z) (Word (name ++ z)) (two-words name z) (flat (After Gap (Long c 11)) t n d e (Word name) (Word z) u))) y)) x))
    (run-checks (fixed-fits c hash_define) (fixed-checks c hash_define) (λ a. run-checks (gap-fits c) (gap-checks c) (λ a. run-checks (fixed-fits c name) (fixed-checks c name) (λ a. run-checks (fixed-fits c z) (fixed-checks c z) (λ a. value-checks c f h)))))

-- ---- the width's symbol

-- a symbol without `_width` stands here
abbrev pub Bare : ℕ → Looks
Bare lim t i c e =
    (c ≡ 1) × (w : List ℕ) × (r : List ℕ) × (rest t i ≡ w ++ r) × All solid w × (length w ≤ lim) × ((name : List ℕ) → w ≡ name ++ ascii "_width" → ⊥) × Off solid r × (e ≡ past i w)

pub data SymbolLooks (limit : ℕ) (t : List ℕ) (i : TextLocation) (c : ℕ) (e : TextLocation) : Type 0 where
  too_long : Long 1 limit t i c e → SymbolLooks limit t i c e
  bare : Bare limit t i c e → SymbolLooks limit t i c e
  valued : (name : List ℕ) → After (Symbol limit name · Gap) (Long 1 11) t i c e → SymbolLooks limit t i c e

-- a test that takes no byte
abbrev Wanting : {A : Type 0} → Option A → Looks
Wanting o t i c e = (c ≡ 1) × (e ≡ i) × (o ≡ none)

want-checks : {A : Type 0} (o : Option A) → Checked (Wanting o) (want 1 o)
want-checks o = record { near = want-local 1 o; sharp = go o }
  where
    go : {A : Type 0} (o : Option A) → Sharp (Wanting o) (want 1 o)
    go none = unfold want in (record { sharp = λ t i. saw (refl, refl, refl) })
    go (some a) = unfold want in (record { sharp = λ t i. tt })

-- what is known after the symbol s
pub data Ended (s : List ℕ) (t : List ℕ) (i : TextLocation) (c : ℕ) (e : TextLocation) : Type 0 where
  unnamed : (c ≡ 1) → (e ≡ i) → before end_width s ≡ none → Ended s t i c e
  named : (name : List ℕ) → before end_width s ≡ some name → After Gap (Long 1 11) t i c e → Ended s t i c e

module _ {A : Type 0} (limit : ℕ) (f : List ℕ → List ℕ → Reader A) (h : (name w : List ℕ) → Checked Never (f name w)) where
  ended-checks : (s : List ℕ) → Checked (Ended s) (want 1 (before end_width s) >>= λ name. value 1 (f name))
  ended-checks s = record {
    near = bind-local (want-local 1 (before end_width s)) (λ name. (value-checks 1 (f name) (h name)).near);
    sharp = bind-looks (λ name. After Gap (Long 1 11)) (want-local 1 (before end_width s)) (λ name. (value-checks 1 (f name) (h name)).near) (want-checks (before end_width s)).sharp (λ name. (value-checks 1 (f name) (h name)).sharp)
        (λ t i c e (x, y, z). unnamed x y z)
        (λ t i name m c e q x. (let (y, z) = want-inv 1 (before end_width s) t i name m q in named name y (rw z at x)));
  }

  symbol-checks : Checked (SymbolLooks limit) (token is_loose 1 limit >>= λ s. want 1 (before end_width s) >>= λ name. value 1 (f name))
  symbol-checks = record {
    near = bind-local (token-local is_loose 1 limit) (λ s. (ended-checks s).near);
    sharp = bind-looks Ended (token-local is_loose 1 limit) (λ s. (ended-checks s).near) (token-looks 1 limit) (λ s. (ended-checks s).sharp) (λ t i c e x. too_long x) (λ t i s m c e q x. go t i s m c e ((token-fits 1 limit s).to t i m q) x);
  }
    where
      go : (t : List ℕ) (i : TextLocation) (s : List ℕ) (m : TextLocation) (c : ℕ) (e : TextLocation) → (All solid s × (length s ≤ limit)) × At (Word s) (Off solid) t i m → Ended s t m c e → SymbolLooks limit t i c e
      go t i s m c e ((a, n), (w, r, d, l, o, z)) (unnamed x y q) =
          let k : w ≡ s = unfold Word in l in
          bare (x, s, r, d ∙ ap (λ (v : List ℕ). v ++ r) k, a, n, (λ name u. (let z : ◌≡◌ {A = ℕ} 0 1 = cc (sym q, ends→before end_width name) in omega arith)), o, y ∙ z ∙ ap (past i) k)
      go t i s m c e ((a, n), p) (named name q x) =
          let b : s ≡ name ++ end_width = before→ends end_width s name q in
          valued name (flat (Long 1 11) t i c e (Symbol limit name) Gap (record { place = m; word = word b p; check = x }))
        where
          word : s ≡ name ++ end_width → At (Word s) (Off solid) t i m → At (Symbol limit name) Any t i m
          word b (w, r, d, l, o, z) = unfold Word Symbol Any in (w, r, d, (l ∙ b, all_left solid name end_width (rw b at a), omega (arith, ap length l)), tt, z)

-- ---- the header

pub data Found (limit : ℕ) (t : List ℕ) (i : TextLocation) (c : ℕ) (e : TextLocation) : Type 0 where
  symbol-long : After Opening (Long 1 limit) t i c e → Found limit t i c e
  symbol-bare : After Opening (λ t i c e. Off blank (rest t i) × Bare limit t i c e) t i c e → Found limit t i c e
  token-long : (n : ℕ) → After (Lead limit n) (Long n 11) t i c e → Found limit t i c e

-- a symbol after all blanks of its gap
abbrev Reads : ℕ → Looks
Reads limit t i c e = Off blank (rest t i) × SymbolLooks limit t i c e

-- up to the width line's end
front-checks : (limit : ℕ) → Checked (Found limit) (first limit)
unfolding first width_line
front-checks limit =
    checked-weak (λ t i c e x. (let (o, y) = x.check.check.check in there t i c e x o y))
    (run-checks leading-fits (record { near = leading-local 1 true; sharp = leading-sharp 1 true }) (λ a. run-checks (fixed-fits 1 hash_define) (fixed-checks 1 hash_define) (λ a. run-follows (gap-fits 1) (gap-checks 1) (λ a. symbol-checks limit (λ name w. unsigned 110 w >>= λ v. need 21 (positive v) >>= λ n. give (name, n)) (λ name w. first-checks (need-checks _ _) (λ v. first-checks (need-checks 21 _) (λ n. give-checks (name, n))))))))
  where
    -- with what is known in place of what may be
    onto : (P : Looks) (t : List ℕ) (i : TextLocation) (c : ℕ) (e : TextLocation) (x : After (Star Skipped) (After (Lit "#define") (After Gap (Reads limit))) t i c e) → P t x.check.check.place c e → After Opening P t i c e
    onto P t i c e x y =
        flat P t i c e (Star Skipped) (Lit "#define" · Gap) (record {
          place = x.place;
          word = x.word;
          check =
              flat P t x.place c e (Lit "#define") Gap (record { place = x.check.place; word = x.check.word; check = record { place = x.check.check.place; word = x.check.check.word; check = y } });
        })

    there : (t : List ℕ) (i : TextLocation) (c : ℕ) (e : TextLocation) (x : After (Star Skipped) (After (Lit "#define") (After Gap (Reads limit))) t i c e) → Off blank (rest t x.check.check.place) → SymbolLooks limit t x.check.check.place c e → Found limit t i c e
    there t i c e x o (too_long y) = symbol-long (onto (Long 1 limit) t i c e x y)
    there t i c e x o (bare y) = symbol-bare (onto (λ t i c e. Off blank (rest t i) × Bare limit t i c e) t i c e x (o, y))
    there t i c e x o (valued name y) =
        token-long 1 (same-words (Long 1 11) t i c e (Star Skipped · Named (Symbol limit name)) (Lead limit 1) (λ w k. width name k) (
        flat (Long 1 11) t i c e (Star Skipped) (Named (Symbol limit name)) (record {
          place = x.place;
          word = x.word;
          check =
              flat (Long 1 11) t x.place c e (Lit "#define") (Gap · Symbol limit name · Gap) (record {
                place = x.check.place;
                word = x.check.word;
                check =
                    flat (Long 1 11) t x.check.place c e Gap (Symbol limit name · Gap) (record { place = x.check.check.place; word = x.check.check.word; check = y });
              });
        })))

-- known of a name of solid bytes
abbrev Given : List ℕ → Looks → Looks
Given name P t i c e = All solid name → P t i c e

pub data HotLook (name t : List ℕ) (i : TextLocation) (c : ℕ) (e : TextLocation) : Type 0 where
  at_x : After (Named (Word (name ++ ascii "_x_hot"))) (Long 3 11) t i c e → HotLook name t i c e
  at_y : (x : ℤ) → After (Define (Word (name ++ ascii "_x_hot")) (Coordinate x)) (After (Named (Word (name ++ ascii "_y_hot"))) (Long 4 11)) t i c e → HotLook name t i c e

pub data NextLook (name t : List ℕ) (i : TextLocation) (c : ℕ) (e : TextLocation) : Type 0 where
  at-height : After (Named (Word (name ++ ascii "_height"))) (Long 2 11) t i c e → NextLook name t i c e
  later : (h : ℕ) → After (Define (Word (name ++ ascii "_height")) (Side h)) (HotLook name) t i c e → NextLook name t i c e

module _ (name : List ℕ) where
  ending-checks : (w h : ℕ) (o : Option (ℤ × ℤ)) → Checked Never (ending name w h o)
  ending-checks w h o = first-checks (record { near = array-local 5 name; sharp = array-sharp name }) (λ a. give-checks _)

  hot-line : {A : Type 0} (k : ℤ → ℤ → Reader A) → ((x y : ℤ) → Checked Never (k x y)) → Checked (Given name (HotLook name)) (hotspot name k)
  hot-line k h =
      let y-line : (x : ℤ) → Checked (After (Named (Word (name ++ ascii "_y_hot"))) (Long 4 11)) (line 4 name (ascii "_y_hot") (signed 140) >>= λ y. k x y) = λ x. first-checks (line-checks 4 name (ascii "_y_hot") (signed 140) (λ w. need-checks _ _)) (h x) in
      let x-line : Checked (After (Named (Word (name ++ ascii "_x_hot"))) (Long 3 11)) (line 3 name (ascii "_x_hot") (signed 130)) = line-checks 3 name (ascii "_x_hot") (signed 130) (λ w. need-checks _ _) in
      record {
        near = bind-local x-line.near (λ x. (y-line x).near);
        sharp = bind-looks (λ x. After (Named (Word (name ++ ascii "_y_hot"))) (Long 4 11)) x-line.near (λ x. (y-line x).near) x-line.sharp (λ x. (y-line x).sharp) (λ t i c e x s. at_x x)
            (λ t i x m c e q y s. at_y x (record { place = m; word = ((hot-fits 3 130 name (ascii "x_hot") x s).to t i m q).1; check = y }));
      }

  rest-checks : (w h : ℕ) → Checked (Given name (HotLook name)) (headerRest name w h)
  unfolding headerRest Never
  rest-checks w h =
      let x : Checked (Given name (HotLook name)) (hotspot name (λ x y. ending name w h (some (x, y)))) = hot-line (λ x y. ending name w h (some (x, y))) (λ x y. ending-checks w h (some (x, y))) in
      let y : Checked (Given name (HotLook name)) (ending name w h none) = checked-weak (λ t i c e z. absurd z) (ending-checks w h none) in
      record { near = fork-local 5 35 115 x.near y.near; sharp = fork-sharp 5 35 115 x.sharp y.sharp }

next-checks : (nw : List ℕ × ℕ) → Checked (Given nw.0 (NextLook nw.0)) (next nw)
next-checks (name, w) =
    let h_line : Checked (After (Named (Word (name ++ ascii "_height"))) (Long 2 11)) (line 2 name (ascii "_height") (side 120 22)) = line-checks 2 name (ascii "_height") (side 120 22) (λ v. first-checks (need-checks _ _) (λ x. need-checks 22 _)) in
    record {
      near = bind-local h_line.near (λ h. (rest-checks name w h).near);
      sharp = bind-looks (λ h. Given name (HotLook name)) h_line.near (λ h. (rest-checks name w h).near) h_line.sharp (λ h. (rest-checks name w h).sharp) (λ t i c e x s. at-height x)
          (λ t i h m c e q y s. later h (record { place = m; word = ((height-fits name h s).to t i m q).1; check = y s }));
    }

-- the lines after the width line, from the text's start on
module _ (limit : ℕ) (name : List ℕ) (w : ℕ) (t : List ℕ) (i m : TextLocation) (c : ℕ) (e : TextLocation) (k : At (Front limit name (Side w)) Any t i m) where
  in_line_lem : (n : ℕ) (K S : Lang) (j : TextLocation) → At K Any t i j → ((u : List ℕ) → (K · Named S) u → Lead limit n u) → After (Named S) (Long n 11) t j c e → Found limit t i c e
  in_line_lem n K S j l g x = token-long n (same-words (Long n 11) t i c e (K · Named S) (Lead limit n) g (flat (Long n 11) t i c e K (Named S) (record { place = j; word = l; check = x })))

  in-hot : (h : ℕ) (j : TextLocation) → At (Sides limit (sketch name w h)) Any t i j → HotLook name t j c e → Found limit t i c e
  in-hot h j l (at_x x) = in_line_lem 3 (Sides limit (sketch name w h)) (Word (name ++ ascii "_x_hot")) j l (λ u a. x-hot (sketch name w h) a) x
  in-hot h j l (at_y z x) = in_line_lem 4 (Third limit (sketch name w h) (Coordinate z)) (Word (name ++ ascii "_y_hot")) x.place (at_both (Sides limit (sketch name w h)) (Define (Word (name ++ ascii "_x_hot")) (Coordinate z)) t i j x.place l x.word) (λ u a. y-hot (sketch name w h) z a) x.check

  in-next : NextLook name t m c e → Found limit t i c e
  in-next (at-height x) = in_line_lem 2 (Front limit name (Side w)) (Word (name ++ ascii "_height")) m k (λ u a. height (sketch name w 0) a) x
  in-next (later h x) = in-hot h x.place (at_both (Front limit name (Side w)) (Define (Word (name ++ ascii "_height")) (Side h)) t i m x.place k x.word) x.check

next-checks-at : (limit : ℕ) → Checked (Found limit) (first limit >>= next)
next-checks-at limit = record {
  near = bind-local (front-checks limit).near (λ nw. (next-checks nw).near);
  sharp = bind-looks (λ nw. Given nw.0 (NextLook nw.0)) (front-checks limit).near (λ nw. (next-checks nw).near) (front-checks limit).sharp (λ nw. (next-checks nw).sharp) (λ t i c e x. x)
      (λ t i nw m c e q x. (let k : At (Front limit nw.0 (Side nw.1)) Any t i m = ((first_fits limit nw).to t i m q).1 in in-next limit nw.0 nw.1 t i m c e k (x (front-name limit nw.0 (Side nw.1) k.0 k.3))));
}

pub header-checks : (limit : ℕ) → Checked (Found limit) (header limit)
header-checks limit = rw (← whole) (next-checks-at limit)
  where
    whole : (first limit >>= next) ≡ header limit
    whole = unfold header first in assoc (leading 1 true) (λ a. width_line limit) next

pub picture-checks : (limit n : ℕ) → Checked (Found limit) (picture limit n)
unfolding picture
picture-checks limit n = first-checks (header-checks limit) (λ h. first-checks (record { near = whole-local h.width h.height n; sharp = whole-sharp h.width h.height n }) (λ l. give-checks (h, l)))

-- ---- from the text's start

-- no solid byte and no blank: a newline
newline : (w : List ℕ) (b : ℕ) (v : List ℕ) → Off blank (w ++ (b ∷ v)) → solid b ≡ false → w ≡ [] → b ≡ 10
unfolding Off
newline [] b v h f e = eqb-true b 10 (go (eqb b 10) (rw h at f))
  where
    go : (d : Bool) → not (false || d) ≡ false → d ≡ true
    go true f = refl
    go false f = sym f
newline (x ∷ w) b v h f e = let z : ◌≡◌ {A = ℕ} 0 1 = cc in absurd (omega arith)

module _ (limit : ℕ) (t : List ℕ) (c : ℕ) (p : TextLocation) where
  placed : (K : Lang) (m : TextLocation) (w r : List ℕ) → At K Any t start m → rest t m ≡ w ++ r → p ≡ past m w → (u : List ℕ) × K u × (t ≡ u ++ (w ++ r)) × (byte_of p ≡ length (u ++ w))
  placed K m w r (u, s, d, k, f, o) q z = (
    u,
    k,
    sym (start-rest t) ∙ d ∙ ap (λ (x : List ℕ). u ++ x) (sym (move u s t start d) ∙ ap (rest t) (sym o) ∙ q),
    omega (arith, ap byte_of z, past-byte m w, ap byte_of o, past-byte start u, length-append u w),
  )

  pub found : Found limit t start c p → (rest t p ≡ []) ⊎ Looked limit t p c
  found (symbol-long x) =
      let (n, w, b, v, q, a, l, s, z) = x.check in
      let (u, k, d, o) = placed Opening x.place w (b ∷ v) x.word q z in
      inr (rw n (long-symbol u w b (v, d, o) k a (omega (arith, l)) s))
  found (token-long n x) =
      let (g, w, b, v, q, a, l, s, z) = x.check in
      let (u, k, d, o) = placed (Lead limit n) x.place w (b ∷ v) x.word q z in
      inr (rw g (long-token n u w b (v, d, o) k a l s))
  found (symbol-bare x) = let (h, (n, w, r, q, a, l, g, f, z)) = x.check in other w r (rw q at h) n q a l g f z
    where
      other : (w r : List ℕ) → Off blank (w ++ r) → c ≡ 1 → rest t x.place ≡ w ++ r → All solid w → length w ≤ limit → ((name : List ℕ) → w ≡ name ++ ascii "_width" → ⊥) → Off solid r → p ≡ past x.place w
          → (rest t p ≡ []) ⊎ Looked limit t p c
      other w [] h n q a l g f z = inl (rw z (move w [] t x.place q))
      other w (b ∷ v) h n q a l g f z =
          let (u, k, d, o) = placed Opening x.place w (b ∷ v) x.word q z in
          let e : solid b ≡ false = unfold Off in f in
          inr (rw n (no-width u w b (v, d, o) k a l g e (newline w b v h e)))
