-- When 31 comes: too many rows and the whole text sound, or too few and the next data byte well formed; and at no other time.
use Rattle.std.proofs.Math.Path.{◌≡◌, refl, sym, ap}
use Rattle.std.proofs.Common.{◌∙◌, eq-eqb, ne_eqb, lt-ltb, le-ltb}
use Rattle.std.specs.Prelude.{◌↔◌, ℕ, zero, suc, ◌*◌, ◌/◌, ◌<◌, min, Bool, false, eqb}
use Rattle.std.proofs.Math.Logic.{inl, inr}
use native.Mathlib.Omega.{arith}
use Rattle.std.proofs.Math.Decide.{dec_lt}
use Rattle.std.proofs.Math.Bool.{true}
use mathlib.Core.List.{List, [], ◌∷◌, ◌++◌, append_assoc}
use Rattle.std.proofs.Math.ListN.{length}
use Rattle.text.specs.declared.TextLocation.{TextLocation}
use Rattle.text.specs.Place.{rest, start, past}
use Rattle.text.specs.Reader.{Result, ok, stop, bad, then, Reader, ◌>>=◌, ◌>>◌}
use Rattle.text.specs.Leaf.{give, need}
use Rattle.text.specs.Outcome.{unplaced, outcome}
use Rattle.header.specs.Header.{Head, header}
use Rattle.body.specs.Data.{item, items, closing, tail, trailer, row_bytes, bytes_of}
use Rattle.rows.specs.Rows.{mismatch, whole}
use Rattle.image.specs.Reading.{picture, reading}
use Rattle.grammar.specs.Lang.{◌·◌}
use Rattle.grammar.specs.Grammar.{Mask}
use Rattle.grammar.proofs.Bind.{bind-case, bind_ok, move}
use Rattle.grammar.proofs.Fits.{Any}
use Rattle.grammar.specs.Devices.{head_of, made, body, front, text}
use Rattle.grammar.proofs.Headers.{header-exactly}
use Rattle.grammar.proofs.Exact.{start-rest, data-fits, exactly}
use Rattle.claims.specs.Terms.{W, rows, TooMany, TooFew, Mismatched}
use Rattle.claims.proofs.Numbers.{no_number, untold, header-numbered, items-numbered, item-numbered, trailer-numbered}
use Rattle.claims.proofs.Parts.{Parts, done, parts, tailed}
use Rattle.claims.proofs.Accepts.{whole-fitted}

-- ---- a run of j + 1 data bytes is a run of j and one more

pub apart : (j : ℕ) (f g : Bool) (t : List ℕ) (i : TextLocation) (l : List ℕ) (e : TextLocation) → (j ≡ 0 → g ≡ f) → (0 < j → g ≡ false) → items (suc j) f t i ≡ ok l e
    → (k : List ℕ) × (n : TextLocation) × (b : ℕ) × (items j f t i ≡ ok k n) × (item g t n ≡ ok b e)
unfolding items give
apart zero f g t i l e hz hs q = bind-case (item f) _ t i q (λ b n u v. bind-case (give []) _ t n v (λ a o x y. ([], i, b, refl, rw (hz refl) (u ∙ ap (λ (c : TextLocation). ok b c) (cc)))))
apart (suc j) f g t i l e hz hs q =
    bind-case (item f) _ t i q (λ b n u v. bind-case (items (suc j) false) _ t n v (λ a o x y. (let z : o ≡ e = cc in
    let (k, d, c, p, s) = apart j false g t n a o (λ w. hs (omega arith)) (λ w. hs (omega arith)) x in
    (b ∷ k, d, c, bind_ok (item f) _ t i b n u ∙ bind_ok (items j false) _ t n k d p, s ∙ ap (λ (w : TextLocation). ok c w) z))))

pub joined : (j : ℕ) (f g : Bool) (t : List ℕ) (i : TextLocation) (k : List ℕ) (n : TextLocation) (b : ℕ) (e : TextLocation) → (j ≡ 0 → g ≡ f) → (0 < j → g ≡ false) → items j f t i ≡ ok k n → item g t n ≡ ok b e
    → items (suc j) f t i ≡ ok (k ++ b ∷ []) e
unfolding items give
joined zero f g t i k n b e hz hs p q = let x : [] ≡ k = cc in let y : i ≡ n = cc in
    bind_ok (item f) _ t i b e (rw (← y, hz refl) at q) ∙ bind_ok (give []) (λ l. give (b ∷ l)) t e [] e refl ∙ ap (λ (l : List ℕ). ok (l ++ b ∷ []) e) x
joined (suc j) f g t i k n b e hz hs p q =
    bind-case (item f) _ t i p (λ a o u v. bind-case (items j false) _ t o v (λ l r x y. (let z : a ∷ l ≡ k = cc in let w : r ≡ n = cc in
    bind_ok (item f) _ t i a o u
    ∙ bind_ok (items (suc j) false) _ t o (l ++ b ∷ []) e (joined j false g t o l n b e (λ w. hs (omega arith)) (λ w. hs (omega arith)) (x ∙ ap (λ (c : TextLocation). ok l c) w) q)
    ∙ ap (λ (l : List ℕ). ok (l ++ b ∷ []) e) z)))

pub zero_test : (n : ℕ) → (n ≡ 0 → eqb n 0 ≡ true) × (0 < n → eqb n 0 ≡ false)
zero_test n = ((λ q. eq-eqb n 0 q), λ h. ne_eqb n 0 (λ q. omega arith))

-- ---- what is read into too few rows, and into too many

pub whole-few : (w h n : ℕ) (t : List ℕ) (i : TextLocation) → n / w < h → whole w h n t i ≡ (items (row_bytes w * (n / w)) true >>= λ l. item (eqb (row_bytes w * (n / w)) 0) >> mismatch) t i
unfolding whole
whole-few w h n t i q = let x : min (n / w) h ≡ n / w = omega arith in rw (ne_eqb (n / w) h (λ e. omega arith), lt-ltb (n / w) h q, x)

whole-many : (w h n : ℕ) (t : List ℕ) (i : TextLocation) → h < n / w → whole w h n t i ≡ (items (bytes_of w h) true >>= λ l. trailer >> mismatch) t i
unfolding whole
whole-many w h n t i q = let x : min (n / w) h ≡ h = omega arith in rw (ne_eqb (n / w) h (λ e. omega arith), le-ltb (n / w) h (omega arith), x)

-- ---- a refusal without a place, passed on and taken apart

bind-on : {A B : Type 0} (p : Reader A) (f : A → Reader B) (t : List ℕ) (i : TextLocation) (c : ℕ) (e : TextLocation) → p t i ≡ bad c e → (p >>= f) t i ≡ bad c e
unfolding ◌>>=◌
bind-on p f t i c e h = rw h

bind-bad : {A B C : Type 0} (p : Reader A) (f : A → Reader B) (t : List ℕ) (i : TextLocation) (c : ℕ) (e : TextLocation) → (p >>= f) t i ≡ bad c e
    → (p t i ≡ bad c e → C) → ((a : A) (m : TextLocation) → p t i ≡ ok a m → f a t m ≡ bad c e → C) → C
unfolding ◌>>=◌
bind-bad {A} {B} {C} p f t i c e q g k = go (p t i) refl q
  where
    go : (r : Result A) → p t i ≡ r → then r (λ a m. f a t m) ≡ bad c e → C
    go (ok a m) u h = k a m u h
    go (stop d m) u h = let z : ◌≡◌ {A = ℕ} 0 1 = cc in absurd (omega arith)
    go (bad d m) u h = g (u ∙ cc)

-- ---- data and trailer tell a place with every refusal

no_items : (k : ℕ) (f : Bool) (t : List ℕ) (i e : TextLocation) → items k f t i ≡ bad 31 e → ⊥
no_items k f t i e q = untold (items-numbered {lo = 6} {hi = 6} {bare = no_number} k f refl) t i 31 e refl q

no_item : (f : Bool) (t : List ℕ) (i e : TextLocation) → item f t i ≡ bad 31 e → ⊥
no_item f t i e q = untold (item-numbered {lo = 6} {hi = 6} {bare = no_number} f refl) t i 31 e refl q

no-trailer : (t : List ℕ) (i e : TextLocation) → trailer t i ≡ bad 31 e → ⊥
no-trailer t i e q = untold (trailer-numbered {lo = 7} {hi = 8} {bare = no_number} refl refl) t i 31 e refl q

module _ (lim : ℕ) (t pixels : List ℕ) where
  -- ---- from the text to 31

  abbrev Unequal : Type 0
  Unequal = (e : TextLocation) × (picture lim (length pixels) t start ≡ bad 31 e)

  after-header : (h : Head) (k e : TextLocation) → header lim t start ≡ ok h k → whole h.width h.height (length pixels) t k ≡ bad 31 e → Unequal
  unfolding picture
  after-header h k e p q = (e, bind_ok (header lim) (λ h. whole h.width h.height (length pixels) >>= λ l. give (h, l)) t start h k p ∙ bind-on (whole h.width h.height (length pixels)) (λ l. give (h, l)) t k 31 e q)

  many-31 : (m : Mask) → TooMany lim m t pixels → Unequal
  unfolding trailer need
  many-31 m (l, f) =
      let p : Parts lim t m (done lim t m f) = parts lim t m f in
      let (e, q) = tailed lim t m f in
      let x : trailer t p.to ≡ ok tt e = bind_ok closing (λ a. tail) t p.to tt (done lim t m f) p.close ∙ q in
      after-header (head_of m) p.from e p.head (whole-many m.width m.height (length pixels) t p.from l
      ∙ bind_ok (items (bytes_of m.width m.height) true) (λ l. trailer >> mismatch) t p.from m.bytes p.to p.run ∙ bind_ok trailer (λ a. mismatch) t p.to tt e x)

  few-31 : (m : Mask) → TooFew lim m t pixels → Unequal
  unfolding ◌·◌ Any need
  few-31 m (l, s, (u, v, q, (a, b, q2, ha, hb))) =
      let d : rest t start ≡ a ++ (b ++ v) = start-rest t ∙ q ∙ ap (λ (x : List ℕ). x ++ v) q2 ∙ append_assoc a b v in
      let x : header lim t start ≡ ok (head_of m) (past start a) = (header-exactly lim m t start (past start a)).1 (a, b ++ v, d, ha, tt, refl) in
      let y : items (suc (W m * rows m pixels)) true t (past start a) ≡ ok m.bytes (past (past start a) b) = (data-fits (suc (W m * rows m pixels)) m.bytes).from t (past start a) b v (s ∙ omega arith) (move a (b ++ v) t start d) hb tt in
      let (k, n, c, o, z) = apart (W m * rows m pixels) true (eqb (W m * rows m pixels) 0) t (past start a) m.bytes (past (past start a) b) (zero_test (W m * rows m pixels)).0 (zero_test (W m * rows m pixels)).1 y in
      after-header (head_of m) (past start a) (past (past start a) b) x (whole-few m.width m.height (length pixels) t (past start a) l
      ∙ bind_ok (items (W m * rows m pixels) true) (λ l. item (eqb (W m * rows m pixels) 0) >> mismatch) t (past start a) k n o ∙ bind_ok (item (eqb (W m * rows m pixels) 0)) (λ a. mismatch) t n c (past (past start a) b) z)

  -- ---- from 31 to the text

  module _ (h : Head) (k e : TextLocation) (p : header lim t start ≡ ok h k) where
    -- the data bytes of the buffer's rows
    abbrev few : ℕ
    few = row_bytes h.width * (length pixels / h.width)

    to-few : (l : List ℕ) (i : TextLocation) (b : ℕ) (n : TextLocation) → length pixels / h.width < h.height
        → items few true t k ≡ ok l i → item (eqb few 0) t i ≡ ok b n → Mismatched lim t pixels
    unfolding ◌·◌
    to-few l i b n r q s =
        let o = joined few true (eqb few 0) t k l i b n (zero_test few).0 (zero_test few).1 q s in
        let (c, (v, y, z, hd, g, w)) = (data-fits (suc few) (l ++ b ∷ [])).to t k n o in
        let (a, x, d, ha, f, u) = (header-exactly lim (made h (l ++ b ∷ [])) t start k).0 p in
        let ex : x ≡ v ++ y = sym (move a x t start d) ∙ ap (rest t) (sym u) ∙ z in
        (made h (l ++ b ∷ []), inr (r, c ∙ omega arith, (a ++ v, y, sym (start-rest t) ∙ d ∙ ap (λ (x : List ℕ). a ++ x) ex ∙ sym (append_assoc a v y), (a, v, refl, ha, hd))))

    to-many : (l : List ℕ) (i n : TextLocation) → h.height < length pixels / h.width → items (bytes_of h.width h.height) true t k ≡ ok l i → trailer t i ≡ ok tt n → Mismatched lim t pixels
    unfolding text front body trailer give
    to-many l i n r q s = bind-case closing (λ a. tail) t i s (λ a j u v. (
      made h l,
      inl (
        r,
        (exactly lim (made h l) t).0 (
          n,
          bind_ok (front lim) (λ m. tail >> give m) t start (made h l) j (bind_ok (header lim) _ t start h k p ∙ bind_ok (body h) (λ l. give (made h l)) t k l j (bind_ok (items (bytes_of h.width h.height) true) _ t k l i q ∙ bind_ok closing (λ a. give l) t i a j u))
              ∙ bind_ok tail (λ a. give (made h l)) t j tt n v,
        ),
      ),
    ))

    apart-31 : whole h.width h.height (length pixels) t k ≡ bad 31 e → Mismatched lim t pixels
    unfolding give
    apart-31 q = go (dec_lt (length pixels / h.width) h.height) (dec_lt h.height (length pixels / h.width))
      where
        go : Dec (length pixels / h.width < h.height) → Dec (h.height < length pixels / h.width) → Mismatched lim t pixels
        go (yes r) d =
            bind-bad (items few true) _ t k 31 e (sym (whole-few h.width h.height (length pixels) t k r) ∙ q) (λ x. absurd (no_items _ true t k e x)) (λ l i x y.
            bind-bad (item _) _ t i 31 e y (λ z. absurd (no_item _ t i e z)) (λ b n z w. to-few l i b n r x z))
        go (no a) (yes r) =
            bind-bad (items (bytes_of h.width h.height) true) _ t k 31 e (sym (whole-many h.width h.height (length pixels) t k r) ∙ q) (λ x. absurd (no_items _ true t k e x)) (λ l i x y.
            bind-bad trailer _ t i 31 e y (λ z. absurd (no-trailer t i e z)) (λ b n z w. to-many l i n r x z))
        go (no a) (no b) =
            bind-bad (items (bytes_of h.width h.height) true) _ t k 31 e (sym (whole-fitted h.width h.height (length pixels) t k (omega arith)) ∙ q) (λ x. absurd (no_items _ true t k e x)) (λ l i x y.
            bind-bad trailer _ t i 31 e y (λ z. absurd (no-trailer t i e z)) (λ b n z w. (let o : ◌≡◌ {A = ℕ} 0 1 = cc in absurd (omega arith))))

pub exactly-31 : (t name pixels : List ℕ) → ((reading t name pixels).answer ≡ unplaced 31) ↔ Mismatched (length name) t pixels
unfolding reading picture give
exactly-31 t name pixels = (go (picture (length name) (length pixels) t start) refl, back)
  where
    go : (r : Result (Head × List ℕ)) → picture (length name) (length pixels) t start ≡ r → outcome (λ (p : Head × List ℕ). p.0) r ≡ unplaced 31 → Mismatched (length name) t pixels
    go (ok x e) q s = let z : ◌≡◌ {A = ℕ} 0 1 = cc in absurd (omega arith)
    go (stop c e) q s = let z : ◌≡◌ {A = ℕ} 0 1 = cc in absurd (omega arith)
    go (bad c e) q s = let z : c ≡ 31 = cc in
        bind-bad (header (length name)) (λ h. whole h.width h.height (length pixels) >>= λ l. give (h, l)) t start 31 e (q ∙ ap (λ (c : ℕ). bad c e) z) (λ u. absurd (untold (header-numbered (length name)) t start 31 e refl u)) (λ h k u v.
        bind-bad (whole h.width h.height (length pixels)) (λ l. give (h, l)) t k 31 e v (λ w. apart-31 (length name) t pixels h k e u w) (λ l i x y. (let o : ◌≡◌ {A = ℕ} 0 1 = cc in absurd (omega arith))))

    back : Mismatched (length name) t pixels → outcome (λ (p : Head × List ℕ). p.0) (picture (length name) (length pixels) t start) ≡ unplaced 31
    back (m, inl x) = ap (outcome (λ (p : Head × List ℕ). p.0)) (many-31 (length name) t pixels m x).1
    back (m, inr x) = ap (outcome (λ (p : Head × List ℕ). p.0)) (few-31 (length name) t pixels m x).1
