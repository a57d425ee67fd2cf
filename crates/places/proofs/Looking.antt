-- Where one of the three checks that look ahead finds its byte, the text is refused there, with its number.
use Rattle.std.specs.Prelude.{◌≡◌, ℕ, ◌+◌, ◌≤◌, true, false, ℤ}
use Rattle.std.proofs.Math.Path.{refl, sym, ap}
use Rattle.std.proofs.Common.{◌∙◌, arith, length-append, lt-ltb, le-ltb}
use Rattle.std.proofs.Math.Option.{Option, none, some}
use mathlib.Core.List.{List, [], ◌∷◌, ◌++◌, append_assoc}
use Rattle.std.proofs.Math.ListN.{length, take}
use Rattle.std.proofs.Math.Seq.{take_at}
use Rattle.std.proofs.lemmas.Bool.{not-true}
use Rattle.text.specs.declared.TextLocation.{TextLocation}
use Rattle.text.specs.Ascii.{ascii}
use Rattle.text.specs.Place.{byte_of, after, start, past}
use Rattle.text.specs.Outcome.{refused, outcome}
use Rattle.text.specs.Reader.{stop, Reader, ◌>>=◌}
use Rattle.text.specs.Leaf.{give, want, need, scan, run}
use Rattle.lexical.specs.Lexical.{is_loose, leading}
use Rattle.lexical.specs.Token.{up_to, token}
use Rattle.symbol.specs.Symbol.{hash_define, end_width, before}
use Rattle.lines.specs.Lines.{value, line, side, signed, unsigned, positive, width_line}
use Rattle.header.specs.Header.{Head, header}
use Rattle.image.specs.Reading.{picture, reading}
use Rattle.grammar.specs.Lang.{Lang, Word, Lit, ◌·◌, All, Star}
use Rattle.grammar.specs.Grammar.{Mask, blank, space, solid, Gap, Symbol, Skipped, Side, Coordinate, Define}
use Rattle.grammar.proofs.Bind.{bind_ok, bind-stop, past-append, move}
use Rattle.grammar.proofs.Exact.{start-rest}
use Rattle.grammar.proofs.Tests.{before→ends, ends→before}
use Rattle.grammar.proofs.Lines.{all_join, all-test, symbol-begins, hot-fits}
use Rattle.grammar.proofs.Fits.{Follow, Off, Next, Here, Fits, Begins}
use Rattle.grammar.proofs.Pieces.{loose-is, begins-any, begins-all, begins-cat, begins-next, leading-fits, begins-symbol, solid-blank, fixed-fits, gap-fits, token-fits, gap-solid}
use Rattle.claims.specs.Terms.{Opening}
use Rattle.refusals.specs.Terms.{Front, Sides, Third}
use Rattle.refusals.proofs.Stages.{assoc}
use Rattle.refusals.proofs.Lines.{next, define-begins}
use Rattle.refusals.proofs.HeaderRows.{first, first_fits, front-name}
use Rattle.refusals.proofs.HotspotRows.{Three, Both, second_fits, both-name, crossed-name, further, header-second, hot, hashed, three_of}
use Rattle.places.specs.Terms.{Ahead, Named, Lead, width, height, x-hot, y-hot, Looked, long-symbol, no-width, long-token}

-- on a word of K, with F after it, p is refused with c past that word
pub record Halts {A : Type 0} (p : Reader A) (K : Lang) (F : Follow) (c : ℕ) : Type 0 where
  pub halts : (t : List ℕ) (i : TextLocation) (w r : List ℕ) → Here t i w r → K w → F r → p t i ≡ stop c (past i w)

pub halt-first : {A B : Type 0} {p : Reader A} (f : A → Reader B) {K : Lang} {F : Follow} {c : ℕ} → Halts p K F c → Halts (p >>= f) K F c
halt-first {p = p} f {c = c} h = record { halts = λ t i w r d k o. bind-stop p f t i c (past i w) (h.halts t i w r d k o) }

-- after a reader that gives a on the words of J
pub halt-bind : {A B : Type 0} {p : Reader A} (f : A → Reader B) (a : A) {X : Type 0} {J K : Lang} {F G : Follow} {c : ℕ} → X → Fits p a X J G → Begins G K F → Halts (f a) K F c → Halts (p >>= f) (J · K) F c
unfolding ◌·◌
halt-bind {p = p} f a {c = c} x h n g = record {
  halts = λ t i w r d (u, v, q, j, k) o. (let z : Here t i u (v ++ r) = d ∙ ap (λ (y : List ℕ). y ++ r) q ∙ append_assoc u v r in
      bind_ok p f t i a (past i u) (h.from t i u (v ++ r) x z j (n.begins v r k o)) ∙ g.halts t (past i u) v r (move u (v ++ r) t i z) k o ∙ ap (λ (e : TextLocation). stop c e) (sym (past-append i u v) ∙ ap (past i) (sym q)));
}

pub halt-words : {A : Type 0} {p : Reader A} {K L : Lang} {F : Follow} {c : ℕ} → ((w : List ℕ) → L w → K w) → Halts p K F c → Halts p L F c
halt-words s h = record { halts = λ t i w r d l o. h.halts t i w r d (s w l) o }

-- ---- a token too long

-- a solid byte follows
unfoldable pub On : Follow
On [] = ⊥
On (b ∷ r) = solid b ≡ true

-- as many solid bytes as it may have
unfoldable pub Full : ℕ → Lang
Full lim w = All solid w × (length w ≡ lim)

take_long : (c lim : ℕ) (s w r : List ℕ) (i : TextLocation) → All solid w → length s + length w ≡ lim → On r → scan c (up_to space lim) (λ w. some w) s (w ++ r) i ≡ stop c (past i w)
unfolding On
take_long c lim s [] [] i a n o = absurd o
take_long c lim s [] (b ∷ r) i a n o = rw (not-true (space b) o, le-ltb (length s) lim (omega arith))
take_long c lim s (x ∷ w) r i a n o = rw (not-true (space x) a.0, lt-ltb (length s) lim (omega arith)) (take_long c lim (s ++ (x ∷ [])) w r (after x i) a.1 (omega (arith, length-append s (x ∷ []))) o)

space-halts : (c lim : ℕ) → Halts (token space c lim) (Full lim) On c
unfolding token run Full
space-halts c lim = record { halts = λ t i w r d k o. rw d (take_long c lim [] w r i k.0 (omega (arith, k.1)) o) }

pub token-halts : (c lim : ℕ) → Halts (token is_loose c lim) (Full lim) On c
token-halts c lim = rw loose-is (space-halts c lim)

full-begins : (lim : ℕ) → Begins (Off blank) (Full lim) On
unfolding Off On Full
full-begins lim = record { begins = λ w r k o. go w r k.0 o }
  where
    go : (w r : List ℕ) → All solid w → On r → Off blank (w ++ r)
    go [] [] a o = absurd o
    go [] (b ∷ r) a o = solid-blank b o
    go (x ∷ w) r a o = solid-blank x a.0

-- ---- the integer of a define line

shift : (J K L : Lang) (w : List ℕ) → ((J · K) · L) w → (J · K · L) w
unfolding ◌·◌
shift J K L w (s, v, q, (t, u, p, j, k), l) = (t, u ++ v, q ∙ ap (λ (y : List ℕ). y ++ v) p ∙ append_assoc t u v, j, (u, v, refl, k, l))

inner : (J K L : Lang) → ((w : List ℕ) → K w → L w) → (w : List ℕ) → (J · K) w → (J · L) w
unfolding ◌·◌
inner J K L g w (u, v, q, j, k) = (u, v, q, j, g v k)

named_flat : (S L : Lang) (w : List ℕ) → (Named S · L) w → (Lit "#define" · Gap · S · Gap · L) w
named_flat S L w k =
    inner (Lit "#define") ((Gap · S · Gap) · L) (Gap · S · Gap · L) (λ v x. inner Gap ((S · Gap) · L) (S · Gap · L) (shift S Gap L) v (shift Gap (S · Gap) L v x)) w (shift (Lit "#define") (Gap · S · Gap) L w k)

value-halts : {A : Type 0} (c : ℕ) (f : List ℕ → Reader A) → Halts (value c f) (Gap · Full 11) On c
value-halts c f = halt-bind _ tt tt (gap-fits c) (full-begins 11) (halt-first _ (token-halts c 11))

-- a line whose symbol is known, up to there
line-halts : {A : Type 0} (c : ℕ) (name z : List ℕ) (f : List ℕ → Reader A) → All solid name → Halts (line c name (95 ∷ z) f) (Named (Word (name ++ (95 ∷ z))) · Full 11) On c
line-halts c name z f s =
    halt-words flat (halt-bind _ tt tt (fixed-fits c hash_define) begins-any (halt-bind _ tt tt (gap-fits c) (begins-cat _ (begins-symbol name 95 z s refl)) (
    halt-words two (halt-bind _ tt tt (fixed-fits c name) begins-any (halt-bind _ tt tt (fixed-fits c (95 ∷ z)) begins-any (value-halts c f))))))
  where
    flat : (w : List ℕ) → (Named (Word (name ++ (95 ∷ z))) · Full 11) w → (Lit "#define" · Gap · Word (name ++ (95 ∷ z)) · Gap · Full 11) w
    flat w k = named_flat (Word (name ++ (95 ∷ z))) (Full 11) w k

    two : (w : List ℕ) → (Word (name ++ (95 ∷ z)) · Gap · Full 11) w → (Word name · Word (95 ∷ z) · Gap · Full 11) w
    two w k = unfold ◌·◌ Word in (let (u, v, q, a, l) = k in (name, (95 ∷ z) ++ v, q ∙ ap (λ (x : List ℕ). x ++ v) a ∙ append_assoc name (95 ∷ z) v, refl, (95 ∷ z, v, refl, refl, l)))

-- ---- the width's symbol

-- a test that holds takes no byte
want-halts : {A B : Type 0} (f : A → Reader B) (c d : ℕ) (o : Option A) (a : A) {K : Lang} {F : Follow} → o ≡ some a → Halts (f a) K F c → Halts (want d o >>= f) K F c
unfolding ◌>>=◌ want
want-halts f c d o a q h = record { halts = λ t i w r z k l. rw q (h.halts t i w r z k l) }

module _ {A : Type 0} (limit : ℕ) (f : List ℕ → List ℕ → Reader A) where
  abbrev symbol_then : Reader A
  symbol_then = token is_loose 1 limit >>= λ s. want 1 (before end_width s) >>= λ name. value 1 (f name)

  -- without `_width`
  bare-halts : (K : Lang) (F : Follow) → ((w : List ℕ) → K w → All solid w × (length w ≤ limit) × ((name : List ℕ) → w ≡ name ++ ascii "_width" → ⊥)) → ((r : List ℕ) → F r → Off solid r) → Halts symbol_then K F 1
  bare-halts K F g e = record {
    halts = λ t i w r d k o. (let (a, n, m) = g w k in
        bind_ok (token is_loose 1 limit) _ t i w (past i w) ((token-fits 1 limit w).from t i w r (a, n) d (unfold Word in refl) (e r o)) ∙ go t (past i w) w (before end_width w) refl m);
  }
    where
      go : (t : List ℕ) (i : TextLocation) (w : List ℕ) (o : Option (List ℕ)) → before end_width w ≡ o → ((name : List ℕ) → w ≡ name ++ ascii "_width" → ⊥) → (want 1 o >>= λ name. value 1 (f name)) t i ≡ stop 1 i
      go t i w none q m = unfold ◌>>=◌ want in refl
      go t i w (some x) q m = absurd (m x (before→ends end_width w x q))

  valued-halts : (name : List ℕ) → Halts symbol_then (Symbol limit name · Gap · Full 11) On 1
  valued-halts name = record { halts = λ t i w r d k o. go t i w r d (unfold ◌·◌ Symbol in k) o }
    where
      go : (t : List ℕ) (i : TextLocation) (w r : List ℕ) → Here t i w r → (u : List ℕ) × (v : List ℕ) × (w ≡ u ++ v) × ((u ≡ name ++ ascii "_width") × All solid name × (length u ≤ limit)) × (Gap · Full 11) v → On r → symbol_then t i ≡ stop 1 (past i w)
      go t i w r d (u, v, q, (e, a, n), l) o =
          let h : Halts symbol_then (Word (name ++ end_width) · Gap · Full 11) On 1 =
          halt-bind _ (name ++ end_width) (all_join solid name end_width a (all-test solid end_width refl), omega (arith, ap length e)) (token-fits 1 limit (name ++ end_width)) (begins-cat _ gap-solid) (
          want-halts _ 1 1 (before end_width (name ++ end_width)) name (ends→before end_width name) (value-halts 1 (f name))) in
          h.halts t i w r d (put u v w q e l) o
        where
          put : (u v w : List ℕ) → w ≡ u ++ v → u ≡ name ++ end_width → (Gap · Full 11) v → (Word (name ++ end_width) · Gap · Full 11) w
          put u v w q e l = unfold ◌·◌ Word in (u, v, q, e, l)

-- ---- the header

module _ (limit : ℕ) where
  -- a symbol or what it stands before, after the opening
  opened-halts : (K : Lang) (F : Follow) → Begins (Off blank) K F → Halts {A = List ℕ × ℕ} (symbol_then limit (λ name w. unsigned 110 w >>= λ v. need 21 (positive v) >>= λ n. give (name, n))) K F 1
      → Halts (header limit) (Star Skipped · Lit "#define" · Gap · K) F 1
  unfolding header width_line
  opened-halts K F b h = halt-bind _ tt tt leading-fits (begins-cat _ (begins-next 35 _)) (halt-first _ (halt-bind _ tt tt (fixed-fits 1 hash_define) begins-any (halt-bind _ tt tt (gap-fits 1) b h)))

  height-halts : (name : List ℕ) (w : ℕ) → All solid name → Halts (header limit) (Front limit name (Side w) · Named (Word (name ++ ascii "_height")) · Full 11) On 2
  height-halts name w s = rw (← whole) (halt-bind next (name, w) tt (first_fits limit (name, w)) begins-any (halt-first _ (line-halts 2 name (ascii "height") (side 120 22) s)))
    where
      whole : (first limit >>= next) ≡ header limit
      whole = unfold header first in assoc (leading 1 true) (λ a. width_line limit) next

  -- `#` after the height line
  hash-halts : (a : Three) (K : Lang) (F : Follow) (c : ℕ) → Begins (Next 35) K F → Halts (hot a) K F c → Halts (header limit) (Both limit a · K) F c
  hash-halts a K F c b h = rw (header-second limit) (halt-bind further a tt (second_fits limit a) begins-any (record { halts = λ t i w r d k o. hashed a t i (rw d (b.begins w r k o)) ∙ h.halts t i w r d k o }))

  x-halts : (a : Three) → All solid a.0.0 → Halts (header limit) (Both limit a · Named (Word (a.0.0 ++ ascii "_x_hot")) · Full 11) On 3
  x-halts a s = hash-halts a _ On 3 (begins-cat _ (begins-cat _ (begins-next 35 _))) (halt-first _ (line-halts 3 a.0.0 (ascii "x_hot") (signed 130) s))

  y-halts : (a : Three) (x : ℤ) → All solid a.0.0 → Halts (header limit) (Both limit a · Define (Word (a.0.0 ++ ascii "_x_hot")) (Coordinate x) · Named (Word (a.0.0 ++ ascii "_y_hot")) · Full 11) On 4
  y-halts a x s = hash-halts a _ On 4 (begins-cat _ (define-begins _ _)) (halt-bind _ x tt (hot-fits 3 130 a.0.0 (ascii "x_hot") x s) begins-any (halt-first _ (line-halts 4 a.0.0 (ascii "y_hot") (signed 140) s)))

-- ---- the text

-- what ends a symbol w: no solid byte, and a newline if w is empty
abbrev Edge : List ℕ → Follow
Edge w r = Off solid r × (w ≡ [] → Next 10 r)

edge-begins : (w : List ℕ) → All solid w → Begins (Off blank) (Word w) (Edge w)
unfolding Off Next Word
edge-begins w s = record { begins = λ v r q o. rw q (go w r s o) }
  where
    go : (w r : List ℕ) → All solid w → Off solid r × (w ≡ [] → Next 10 r) → Off blank (w ++ r)
    go [] [] s o = tt
    go [] (b ∷ r) s o = let z : b ≡ 10 = o.1 refl in rw z refl
    go (x ∷ w) r s o = solid-blank x s.0

-- the header's refusals are the reading's
told-so : (t name pixels : List ℕ) (c : ℕ) (p : TextLocation) → header (length name) t start ≡ stop c p → (reading t name pixels).answer ≡ refused c p
unfolding reading picture
told-so t name pixels c p q = ap (outcome (λ (p : Head × List ℕ). p.0)) (bind-stop (header (length name)) _ t start c p q)

y-name : (limit : ℕ) (m : Mask) (x : ℤ) (u : List ℕ) → (Third limit m (Coordinate x) · Named (Word (m.name ++ ascii "_y_hot"))) u → All solid m.name
unfolding ◌·◌
y-name limit m x u k = crossed-name limit (three_of m, x) k.0 k.3

module _ (t name pixels : List ℕ) (p : TextLocation) where
  abbrev limit : ℕ
  limit = length name

  -- past u and w
  at_start : (K L : Lang) (F : Follow) (c : ℕ) → Halts (header limit) (K · L) F c → (u w : List ℕ) (b : ℕ) → Ahead t p u w b → K u → L w → ((v : List ℕ) → F (b ∷ v))
      → (reading t name pixels).answer ≡ refused c (past start (take (byte_of p) t))
  unfolding ◌·◌
  at_start K L F c h u w b (v, q, z) k l f =
      let s : t ≡ (u ++ w) ++ (b ∷ v) = q ∙ sym (append_assoc u w (b ∷ v)) in
      let y : take (byte_of p) t ≡ u ++ w = ap (take (byte_of p)) s ∙ take_at (u ++ w) (b ∷ v) (byte_of p) (sym z) in
      told-so t name pixels c (past start (take (byte_of p) t)) (h.halts t start (u ++ w) (b ∷ v) (start-rest t ∙ s) (u, w, refl, k, l) (f v) ∙ ap (λ (x : List ℕ). stop c (past start x)) (sym y))

  opening-flat : (L : Lang) (w : List ℕ) → (Opening · L) w → (Star Skipped · Lit "#define" · Gap · L) w
  opening-flat L w k = inner (Star Skipped) ((Lit "#define" · Gap) · L) (Lit "#define" · Gap · L) (shift (Lit "#define") Gap L) w (shift (Star Skipped) (Lit "#define" · Gap) L w k)

  after-opening : (L : Lang) (F : Follow) → Begins (Off blank) L F → ((f : List ℕ → List ℕ → Reader (List ℕ × ℕ)) → Halts (symbol_then limit f) L F 1) → Halts (header limit) (Opening · L) F 1
  after-opening L F b h = halt-words (opening-flat L) (opened-halts limit L F b (h _))

  on-solid : (b : ℕ) → solid b ≡ true → (v : List ℕ) → On (b ∷ v)
  on-solid b h v = unfold On in h

  no-suffix : (u w : List ℕ) (b : ℕ) → Ahead t p u w b → Opening u → All solid w → length w ≤ limit → ((name : List ℕ) → w ≡ name ++ ascii "_width" → ⊥) → solid b ≡ false → (w ≡ [] → b ≡ 10)
      → (reading t name pixels).answer ≡ refused 1 (past start (take (byte_of p) t))
  no-suffix u w b a k s l g h e = at_start Opening (Word w) (Edge w) 1 (after-opening (Word w) (Edge w) (edge-begins w s) (λ f. bare-halts limit f (Word w) (Edge w) facts (λ r o. o.0))) u w b a k (unfold Word in refl) (λ v. (unfold Off in h, λ q. unfold Next in e q))
    where
      facts : (v : List ℕ) → Word w v → All solid v × (length v ≤ limit) × ((name : List ℕ) → v ≡ name ++ ascii "_width" → ⊥)
      facts v q = let z : v ≡ w = unfold Word in q in rw z (s, l, g)

  pub refused-there : (c : ℕ) → Looked limit t p c → (reading t name pixels).answer ≡ refused c (past start (take (byte_of p) t))
  refused-there c (long-symbol u w b a k s l h) = at_start Opening (Full limit) On 1 (after-opening (Full limit) On (full-begins limit) (λ f. halt-first _ (token-halts 1 limit))) u w b a k (unfold Full in (s, l)) (on-solid b h)
  refused-there c (no-width u w b a k s l g h e) = no-suffix u w b a k s l g h e
  refused-there c (long-token d u w b a k s l h) = go d k
    where
      go : (d : ℕ) → Lead limit d u → (reading t name pixels).answer ≡ refused d (past start (take (byte_of p) t))
      go d (width n k) =
          at_start (Star Skipped · Named (Symbol limit n)) (Full 11) On 1 (halt-words (λ v y. inner (Star Skipped) (Named (Symbol limit n) · Full 11) _ (named_flat (Symbol limit n) (Full 11)) v (shift (Star Skipped) (Named (Symbol limit n)) (Full 11) v y))
          (opened-halts limit (Symbol limit n · Gap · Full 11) On (begins-cat _ (begins-all blank solid solid-blank (symbol-begins limit n 0))) (valued-halts limit _ n))) u w b a k (unfold Full in (s, l)) (on-solid b h)
      go d (height m k) = at_start (Front limit m.name (Side m.width) · Named (Word (m.name ++ ascii "_height"))) (Full 11) On 2 (halt-words (shift _ _ _) (height-halts limit m.name m.width (name_of k))) u w b a k (unfold Full in (s, l)) (on-solid b h)
        where
          name_of : (Front limit m.name (Side m.width) · Named (Word (m.name ++ ascii "_height"))) u → All solid m.name
          name_of k = unfold ◌·◌ in (front-name limit m.name (Side m.width) k.0 k.3)
      go d (x-hot m k) = at_start (Sides limit m · Named (Word (m.name ++ ascii "_x_hot"))) (Full 11) On 3 (halt-words (shift _ _ _) (x-halts limit (three_of m) (name_of k))) u w b a k (unfold Full in (s, l)) (on-solid b h)
        where
          name_of : (Sides limit m · Named (Word (m.name ++ ascii "_x_hot"))) u → All solid m.name
          name_of k = unfold ◌·◌ in (both-name limit (three_of m) k.0 k.3)
      go d (y-hot m x k) = at_start (Third limit m (Coordinate x) · Named (Word (m.name ++ ascii "_y_hot"))) (Full 11) On 4 (halt-words (λ v y. shift _ _ _ v (shift _ _ _ v y)) (y-halts limit (three_of m) x (y-name limit m x u k))) u w b a k (unfold Full in (s, l)) (on-solid b h)
