-- The reading accepts exactly the written texts whose picture has just the buffer's rows. Such a text, or one whose header is refused, is read as a text alone.
use Rattle.std.specs.Prelude.{◌≡◌, refl, ◌↔◌, ℕ, ◌*◌, ◌/◌, Bool, true, false, List, length, eqb, ltb}
use Rattle.std.proofs.Common.{sym, ap, ◌∙◌, arith, eqb-true, eq-eqb}
use Rattle.text.specs.declared.TextLocation.{TextLocation}
use Rattle.text.specs.Place.{start}
use Rattle.text.specs.Reader.{Result, ok, stop, bad, then, ◌>>=◌, ◌>>◌}
use Rattle.text.specs.Leaf.{give, need}
use Rattle.text.specs.Outcome.{accepted, outcome}
use Rattle.header.specs.Header.{Head, header}
use Rattle.body.specs.Data.{item, items, closing, tail, trailer, row_bytes, bytes_of}
use Rattle.cells.specs.Cells.{painted, count}
use Rattle.rows.specs.Rows.{mismatch, ending, whole}
use Rattle.image.specs.Reading.{picture, cells_in, reading}
use Rattle.grammar.specs.Grammar.{Mask, Format}
use Rattle.grammar.proofs.Bind.{bind-case}
use Rattle.grammar.specs.Devices.{head_of, made, body, front, text}
use Rattle.grammar.proofs.Exact.{exactly}
use Rattle.claims.specs.Terms.{Fitting}
use Rattle.claims.proofs.Logs.{log_in}
use Rattle.claims.proofs.Painted.{painted-none}
use Rattle.claims.proofs.Parts.{parts}

-- the rows are compared with the picture's after the header
abbrev pub Fitted : List ℕ → Head → Result Head → Type 0
Fitted lent h (ok g e) = (g ≡ h) × (length lent / h.width ≡ h.height)
Fitted lent h (stop c e) = Unit {0}
Fitted lent h (bad c e) = Unit {0}

-- a mask as what the picture's reader gives
abbrev pub split : Result Mask → Result (Head × List ℕ)
split (ok m e) = ok (head_of m, m.bytes) e
split (stop c e) = stop c e
split (bad c e) = bad c e

pub count-all : (w h n : ℕ) → n / w ≡ h → count w h n ≡ bytes_of w h
count-all w h n q = rw q (ap (λ (k : ℕ). row_bytes w * k) (omega arith))

pub whole-fitted : (w h n : ℕ) (t : List ℕ) (i : TextLocation) → n / w ≡ h → whole w h n t i ≡ (items (bytes_of w h) true >>= λ l. trailer >> give l) t i
unfolding whole
whole-fitted w h n t i q = rw (count-all w h n q, eq-eqb (n / w) h q)

pub picture-text : (lim : ℕ) (lent t : List ℕ) (h : Head) → Fitted lent h (header lim t start) → picture lim (length lent) t start ≡ split (text lim t start)
unfolding picture text front body trailer ◌>>=◌ give
picture-text lim lent t h0 f = go (header lim t start) f
  where
    tailed : (h : Head) (l : List ℕ) (r : Result (Unit {0})) → then (then r (λ a e. ok l e)) (λ l e. ok (h, l) e) ≡ split (then r (λ a e. ok (made h l) e))
    tailed h l (ok a e) = refl
    tailed h l (stop c e) = refl
    tailed h l (bad c e) = refl

    closed : (h : Head) (l : List ℕ) (r : Result (Unit {0}))
        → then (then (then r (λ a e. tail t e)) (λ a e. ok l e)) (λ l e. ok (h, l) e)
        ≡ split (then (then (then r (λ a e. ok l e)) (λ l e. ok (made h l) e)) (λ m e. then (tail t e) (λ a e. ok m e)))
    closed h l (ok a e) = tailed h l (tail t e)
    closed h l (stop c e) = refl
    closed h l (bad c e) = refl

    read : (h : Head) (r : Result (List ℕ))
        → then (then r (λ l e. then (then (closing t e) (λ a e. tail t e)) (λ a e. ok l e))) (λ l e. ok (h, l) e)
        ≡ split (then (then (then r (λ l e. then (closing t e) (λ a e. ok l e))) (λ l e. ok (made h l) e)) (λ m e. then (tail t e) (λ a e. ok m e)))
    read h (ok l e) = closed h l (closing t e)
    read h (stop c e) = refl
    read h (bad c e) = refl

    go : (r : Result Head) → Fitted lent h0 r
        → then r (λ h e. then (whole h.width h.height (length lent) t e) (λ l e. ok (h, l) e))
        ≡ split (then (then r (λ h e. then (then (items (bytes_of h.width h.height) true t e) (λ l e. then (closing t e) (λ a e. ok l e))) (λ l e. ok (made h l) e))) (λ m e. then (tail t e) (λ a e. ok m e)))
    go (ok h e) (p, q) = rw (p, whole-fitted h0.width h0.height (length lent) t e q) (read h0 (items (bytes_of h0.width h0.height) true t e))
    go (stop c e) f = refl
    go (bad c e) f = refl

-- an accepted picture fits
picture-fits : (lim : ℕ) (lent t : List ℕ) (h : Head) (l : List ℕ) (e : TextLocation) → picture lim (length lent) t start ≡ ok (h, l) e → (length lent / h.width ≡ h.height) × (text lim t start ≡ ok (made h l) e)
unfolding picture whole give need
picture-fits lim lent t h l e q = bind-case (header lim) _ t start q (λ g k u v. bind-case (whole g.width g.height (length lent)) _ t k v (λ a j x y.
    bind-case (items (count g.width g.height (length lent)) true) _ t k x (λ b i z w. fin g k u (same g a j y) (go g b i (eqb (length lent / g.width) g.height) refl (ltb (length lent / g.width) g.height) w))))
  where
    mis : {C : Type 0} (a : List ℕ) (i j : TextLocation) → mismatch t i ≡ ok a j → C
    mis a i j q = let z : ◌≡◌ {A = ℕ} 0 1 = cc in absurd (omega arith)

    same : (g : Head) (a : List ℕ) (j : TextLocation) → ◌≡◌ {A = Result (Head × List ℕ)} (ok (g, a) j) (ok (h, l) e) → g ≡ h
    same g a j q = let x : ◌≡◌ {A = Head × List ℕ} (g, a) (h, l) = cc in ap (λ (p : Head × List ℕ). p.0) x

    go : (g : Head) (b : List ℕ) (i : TextLocation) {a : List ℕ} {j : TextLocation} (d : Bool) → eqb (length lent / g.width) g.height ≡ d → (z : Bool) → ending d z (eqb (count g.width g.height (length lent)) 0) b t i ≡ ok a j
        → length lent / g.width ≡ g.height
    go g b i true w z v = eqb-true (length lent / g.width) g.height w
    go g b i {a} {j} false w true v = bind-case (item _) _ t i v (λ c k p r. mis a k j r)
    go g b i {a} {j} false w false v = bind-case trailer _ t i v (λ c k p r. mis a k j r)

    back : (r : Result Mask) → split r ≡ ok (h, l) e → r ≡ ok (made h l) e
    back (ok m i) q = let x : ◌≡◌ {A = Head × List ℕ} (head_of m, m.bytes) (h, l) = cc in let y : i ≡ e = cc in
        rw (← (ap (λ (p : Head × List ℕ). made p.0 p.1) x), y)
    back (stop c i) q = let z : ◌≡◌ {A = ℕ} 0 1 = cc in absurd (omega arith)
    back (bad c i) q = let z : ◌≡◌ {A = ℕ} 0 1 = cc in absurd (omega arith)

    fin : (g : Head) (k : TextLocation) → header lim t start ≡ ok g k → g ≡ h → length lent / g.width ≡ g.height → (length lent / h.width ≡ h.height) × (text lim t start ≡ ok (made h l) e)
    fin g k u z w = (rw z at w, back (text lim t start) (sym (picture-text lim lent t g (rw u (refl, w))) ∙ q))

-- the cells after the call are those of the text's log
pub cells-log : (lim : ℕ) (lent t : List ℕ) (h : Head) → Fitted lent h (header lim t start) → cells_in (header lim t start) lent t ≡ painted h.width (log_in (header lim t start) t) lent
cells-log lim lent t h f = go (header lim t start) f
  where
    go : (r : Result Head) → Fitted lent h r → cells_in r lent t ≡ painted h.width (log_in r t) lent
    go (ok g e) (p, q) = rw (p, count-all h.width h.height (length lent) q)
    go (stop c e) f = sym (painted-none h.width lent)
    go (bad c e) f = sym (painted-none h.width lent)

-- ---- exactly

abbrev pub Derived : ℕ → List ℕ → List ℕ → Head → Type 0
Derived limit t pixels h = (m : Mask) × (head_of m ≡ h) × Format limit m t × Fitting m pixels

pub accepts-exactly : (t name pixels : List ℕ) (h : Head) → ((reading t name pixels).answer ≡ accepted h) ↔ Derived (length name) t pixels h
unfolding reading
accepts-exactly t name pixels h = (go (picture (length name) (length pixels) t start) refl, back)
  where
    go : (r : Result (Head × List ℕ)) → picture (length name) (length pixels) t start ≡ r → outcome (λ (p : Head × List ℕ). p.0) r ≡ accepted h → Derived (length name) t pixels h
    go (ok (g, l) e) q s = let (f, x) = picture-fits (length name) pixels t g l e q in (made g l, cc, (exactly (length name) (made g l) t).0 (e, x), f)
    go (stop c e) q s = let z : ◌≡◌ {A = ℕ} 0 1 = cc in absurd (omega arith)
    go (bad c e) q s = let z : ◌≡◌ {A = ℕ} 0 1 = cc in absurd (omega arith)

    back : Derived (length name) t pixels h → outcome (λ (p : Head × List ℕ). p.0) (picture (length name) (length pixels) t start) ≡ accepted h
    back (m, q, f, r) =
        let (e, x) = (exactly (length name) m t).1 f in
        rw (picture-text (length name) pixels t (head_of m) (rw (parts (length name) t m f).head (refl, r)), x) (ap (λ (g : Head). accepted g) q)
