-- The data bytes, the trailer and the whole text fit the grammar: a text is read with a mask exactly if it writes that mask.
use Rattle.std.specs.Prelude.{◌≡◌, refl, ◌↔◌, ◌⊎◌, ℕ, zero, suc, ◌+◌, ◌-◌, ◌*◌, ◌/◌, ◌%◌, ◌≤◌, ◌<◌, Bool, true, false, List, [], ◌∷◌, ◌++◌, length, eqb, leb, ltb}
use Rattle.std.proofs.Common.{sym, ap, ◌∙◌, inl, inr, arith, append-nil, append_assoc, leb-true, le-leb, ltb-true, lt-ltb, eqb-true}
use Rattle.std.proofs.Math.Option.{none, some}
use Rattle.std.proofs.lemmas.Bool.{false≢true, lt-leb}
use Rattle.text.specs.declared.TextLocation.{TextLocation}
use Rattle.text.specs.Ascii.{ascii}
use Rattle.text.proofs.Yields.{yields-bind, yields-give}
use Rattle.text.specs.Reader.{ok, ◌>>=◌, ◌>>◌}
use Rattle.text.specs.Place.{pick, start, rest, past}
use Rattle.text.specs.Leaf.{give}
use Rattle.lexical.specs.Lexical.{byte}
use Rattle.hexadecimal.specs.Hex.{within, hex_of, hexv, hex_digit, is_mark, hex_start, hex_digits, hex_unit, hex_byte}
use Rattle.header.specs.Header.{Head, header}
use Rattle.body.specs.Data.{item, items, brace, closing, tail, trailer, bytes_of}
use Rattle.grammar.specs.Lang.{Lang, Word, ◌·◌, ◌∣◌}
use Rattle.grammar.specs.Grammar.{space, Hex, Byte, Loose, Further, Data, Closing, Mask, Header, Format}
use Rattle.grammar.proofs.Bind.{bind-case, bind_ok}
use Rattle.grammar.specs.Devices.{head_of, made, body, front, text}
use Rattle.grammar.proofs.Tests.{both_true}
use Rattle.grammar.proofs.Fits.{Follow, Any, End, Off, Fits, Begins, fit_same, fit-when, fit-drop, fit-bind, fit-run, fit_then, fit-give, fit-end, fit-last, fit-done, fit-assoc}
use Rattle.grammar.proofs.Pieces.{fit, begin, begins-any, begins-end, one-fits, class-fits, fixed-fits, loose-fits, end_fits}
use Rattle.grammar.proofs.Headers.{fit-never, header-fits}

-- ---- a data byte

-- c is the hex digit of d
abbrev HexOf : ℕ → ℕ → Type 0
HexOf d c = ((d < 10) × (c ≡ 48 + d)) ⊎ ((10 ≤ d) × (d < 16) × ((c ≡ 55 + d) ⊎ (c ≡ 87 + d)))

inside : (a b x : ℕ) → within a b x ≡ true → (a ≤ x) × (x ≤ b)
inside a b x q = let (u, v) = both_true (leb a x) (leb x b) q in (leb-true a x u, leb-true x b v)

hex_of→of : (c d : ℕ) → hex_of c ≡ d → d < 16 → HexOf d c
unfolding hex_of
hex_of→of c d q h = go (within 48 57 c) (within 65 70 c) (within 97 102 c) refl refl refl q
  where
    go : (x y z : Bool) → within 48 57 c ≡ x → within 65 70 c ≡ y → within 97 102 c ≡ z → pick x (c - 48) (pick y (c - 65 + 10) (pick z (c - 97 + 10) 16)) ≡ d → HexOf d c
    go true y z u v w q = let (l, m) = inside 48 57 c u in inl (omega arith, omega arith)
    go false true z u v w q = let (l, m) = inside 65 70 c v in inr (omega arith, omega arith, inl (omega arith))
    go false false true u v w q = let (l, m) = inside 97 102 c w in inr (omega arith, omega arith, inr (omega arith))
    go false false false u v w q = absurd (omega arith)

of→hex_of : (c d : ℕ) → HexOf d c → hex_of c ≡ d
unfolding hex_of
of→hex_of c d (inl (l, q)) = rw (le-leb 48 c (omega arith), le-leb c 57 (omega arith)) (omega arith)
of→hex_of c d (inr (l, m, inl q)) = rw (le-leb 48 c (omega arith), lt-leb c 57 (omega arith), le-leb 65 c (omega arith), le-leb c 70 (omega arith)) (omega arith)
of→hex_of c d (inr (l, m, inr q)) =
    rw (le-leb 48 c (omega arith), lt-leb c 57 (omega arith), le-leb 65 c (omega arith), lt-leb c 70 (omega arith), le-leb 97 c (omega arith), le-leb c 102 (omega arith)) (omega arith)

hexv→of : (c d : ℕ) → hexv c ≡ some d → HexOf d c
unfolding hexv
hexv→of c d q = go (ltb (hex_of c) 16) refl q
  where
    go : (b : Bool) → ltb (hex_of c) 16 ≡ b → pick b (some (hex_of c)) none ≡ some d → HexOf d c
    go true u q = let e : hex_of c ≡ d = cc in hex_of→of c d e (omega (arith, ltb-true (hex_of c) 16 u))
    go false u q = let e : ◌≡◌ {A = ℕ} 0 1 = cc in absurd (omega arith)

of-small : (c d : ℕ) → HexOf d c → d < 16
of-small c d (inl x) = omega arith
of-small c d (inr x) = x.1

of→hexv : (c d : ℕ) → HexOf d c → hexv c ≡ some d
unfolding hexv
of→hexv c d h = rw (of→hex_of c d h, lt-ltb d 16 (of-small c d h))

hex-fits : (c d : ℕ) → Fits (hex_digit c) d (Unit {0}) (Hex d) Any
unfolding hex_digit Hex
hex-fits c d = fit_same (λ w. ((λ (x, (b, l, q)). (x, (b, l, hexv→of b d q))), λ (x, (b, l, h)). (x, (b, l, of→hexv b d h)))) (one-fits c hexv d)

hex-small : (d : ℕ) (w : List ℕ) → Hex d w → d < 16
unfolding Hex
hex-small d w (c, q, h) = of-small c d h

mark-fits : (c : ℕ) → Fits (byte c is_mark) tt (Unit {0}) (Word (ascii "x") ∣ Word (ascii "X")) Any
unfolding ◌∣◌ Word is_mark
mark-fits c = fit_same (λ w. ((λ (x, (b, l, q)). (x, look w b l (eqb b 120) (eqb b 88) refl refl q)), λ (x, k). (x, back w k))) (class-fits c is_mark)
  where
    look : (w : List ℕ) (b : ℕ) → w ≡ b ∷ [] → (p q : Bool) → eqb b 120 ≡ p → eqb b 88 ≡ q → pick p true q ≡ true → (w ≡ 120 ∷ []) ⊎ (w ≡ 88 ∷ [])
    look w b l true q m n h = inl (l ∙ ap (λ (n : ℕ). n ∷ []) (eqb-true b 120 m))
    look w b l false true m n h = inr (l ∙ ap (λ (n : ℕ). n ∷ []) (eqb-true b 88 n))
    look w b l false false m n h = absurd (false≢true h)

    back : (w : List ℕ) → (w ≡ 120 ∷ []) ⊎ (w ≡ 88 ∷ []) → (b : ℕ) × (w ≡ b ∷ []) × (is_mark b ≡ true)
    back w (inl l) = (120, l, refl)
    back w (inr l) = (88, l, refl)

start_fits : (c : ℕ) → Fits (hex_start c) tt (Unit {0}) (Word (ascii "0") · (Word (ascii "x") ∣ Word (ascii "X"))) Any
unfolding hex_start
start_fits c = fit_then (fixed-fits c (48 ∷ [])) (λ a. mark-fits c)

byte_of : (c b : ℕ) → Fits (hex_byte c) b (Unit {0}) (Byte b) Any
unfolding Byte hex_unit hex_digits
byte_of c b =
    fit-assoc _ _ _ (fit_then (start_fits c) (λ a. fit-drop (fit-bind (b / 16) (λ h. Unit {0}) Hex (λ h. Hex (b % 16)) (λ h. h < 16) (hex-fits c) hex-small begins-any (λ h m.
    fit-drop (fit-end (fit-bind (b % 16) (λ l. Unit {0}) Hex (λ l. Word []) (λ l. l < 16) (hex-fits c) hex-small begins-any (λ l n. fit-give (h * 16 + l) ((λ (p, (q, r)). omega arith), λ q. (omega arith, (omega arith, tt))))))))))

item-begins : (b : ℕ) {G : Follow} → Begins (Off space) (Byte b) G
unfolding Byte
item-begins b = search begin

-- ---- all of them

pub first_fits : (b : ℕ) → Fits (item true) b (Unit {0}) (Loose · Byte b) Any
unfolding item Loose
first_fits b = search (fit, item-begins, byte_of)

pub next_fits : (b : ℕ) → Fits (item false) b (Unit {0}) (Loose · Word (ascii ",") · Loose · Byte b) Any
unfolding item Loose
next_fits b = search (fit, item-begins, byte_of) depth 10

step_fits : (k : ℕ) (f : Bool) (K : ℕ → Lang) (b0 : ℕ) (l0 : List ℕ) → ((b : ℕ) → Fits (item f) b (Unit {0}) (K b) Any) → ((l : List ℕ) → Fits (items k false) l (length l ≡ k) (Further l) Any)
    → Fits (item f >>= λ b. items k false >>= λ l. give (b ∷ l)) (b0 ∷ l0) (suc (length l0) ≡ suc k) (K b0 · Further l0) Any
step_fits k f K b0 l0 h ih =
    fit-drop (fit-bind b0 (λ b. Unit {0}) K (λ b. Further l0) (λ b. Unit {0}) h (λ b w k. tt) begins-any (λ b u. fit-when {X = (length l0 ≡ k) × ((b ≡ b0) × Unit {0})} ((λ (p, (q, r)). (q, omega arith)), λ (q, p). (omega arith, (q, tt)))
    (fit-last l0 (λ l. length l ≡ k) Further ih (λ l. fit-give (b ∷ l) ((λ (p, (q, r)). rw (p, q)), λ e. (cc, (cc, tt)))))))

further-fits : (k : ℕ) (l : List ℕ) → Fits (items k false) l (length l ≡ k) (Further l) Any
unfolding items Further
further-fits zero [] = fit-give [] ((λ q. refl), λ q. refl)
further-fits zero (b ∷ l) = fit-when ((λ x. absurd x), λ q. omega arith) (fit-never (λ l. l ≡ []) (yields-give [] refl) (λ q. let z : ◌≡◌ {A = ℕ} 0 1 = cc in omega arith))
further-fits (suc k) [] = fit-when ((λ x. absurd x), λ q. omega arith) (fit-never (λ l. (b : ℕ) × (r : List ℕ) × (l ≡ b ∷ r)) (yields-bind _ (λ b. yields-bind _ (λ r. yields-give _ (b, r, refl)))) (λ (b, r, q). let z : ◌≡◌ {A = ℕ} 0 1 = cc in omega arith))
further-fits (suc k) (b ∷ l) = step_fits k false (λ b. Loose · Word (ascii ",") · Loose · Byte b) b l next_fits (further-fits k)

pub data-fits : (k : ℕ) (l : List ℕ) → Fits (items k true) l (length l ≡ k) (Data l) Any
unfolding items Data
data-fits zero [] = fit-give [] ((λ q. refl), λ q. refl)
data-fits zero (b ∷ l) = fit-when ((λ x. absurd x), λ q. omega arith) (fit-never (λ l. l ≡ []) (yields-give [] refl) (λ q. let z : ◌≡◌ {A = ℕ} 0 1 = cc in omega arith))
data-fits (suc k) [] = fit-when ((λ x. absurd x), λ q. omega arith) (fit-never (λ l. (b : ℕ) × (r : List ℕ) × (l ≡ b ∷ r)) (yields-bind _ (λ b. yields-bind _ (λ r. yields-give _ (b, r, refl)))) (λ (b, r, q). let z : ◌≡◌ {A = ℕ} 0 1 = cc in omega arith))
data-fits (suc k) (b ∷ l) = step_fits k true (λ b. Loose · Byte b) b l first_fits (further-fits k)

pub closing-fits : Fits closing tt (Unit {0}) Closing Any
unfolding closing brace Closing Loose
closing-fits = search fit depth 30 fits 5000

-- ---- the whole text

pub body-fits : (h : Head) (l : List ℕ) → Fits (body h) l (length l ≡ bytes_of h.width h.height) (Data l · Closing) Any
unfolding body
body-fits h l0 =
    fit-when {X = (length l0 ≡ bytes_of h.width h.height) × Unit {0}} ((λ x. x.0), λ x. (x, tt)) (fit-bind l0 (λ l. length l ≡ bytes_of h.width h.height) Data (λ l. Closing) (λ l. Unit {0}) (data-fits (bytes_of h.width h.height)) (λ l w k. tt) begins-any (λ l u.
    fit-done closing-fits (λ a. fit-give l ((λ x. x.0), λ q. (q, tt)))))

-- the mask has the data bytes of all its rows
abbrev pub Whole : Mask → Type 0
Whole m = length m.bytes ≡ (m.width + 7) / 8 * m.height

pub front_fits : (lim : ℕ) (m : Mask) → Fits (front lim) m (Whole m) (Header lim m · Data m.bytes · Closing) Any
unfolding front Header
front_fits lim m =
    fit-drop (fit-bind (head_of m) (λ h. Unit {0}) (λ h. Header lim (made h [])) (λ h. Data m.bytes · Closing) (λ h. Unit {0}) (λ h. header-fits h.name h.width h.height lim h.hot) (λ h w k. tt) begins-any (λ h u.
    fit-when {X = (length m.bytes ≡ bytes_of h.width h.height) × ((h ≡ head_of m) × Unit {0})} ((λ (p, (q, r)). (q, rw q at p)), λ (q, p). (rw q p, (q, tt)))
    (fit-last m.bytes (λ l. length l ≡ bytes_of h.width h.height) (λ l. Data l · Closing) (body-fits h) (λ l. fit-give (made h l) (there h l, λ e. (ap (λ (n : Mask). n.bytes) e, (ap head_of e, tt)))))))
  where
    there : (h : Head) (l : List ℕ) → (l ≡ m.bytes) × ((h ≡ head_of m) × Unit {0}) → made h l ≡ m
    there h l (p, (q, r)) = rw (p, q)

pub tail-fits : Fits tail tt (Unit {0}) Loose End
unfolding tail Loose
tail-fits = fit-end (fit-run loose-fits (begins-end space) (λ a. end_fits 8))

pub text-fits : (lim : ℕ) (m : Mask) → Fits (text lim) m (Whole m) ((Header lim m · Data m.bytes · Closing) · Loose) End
unfolding text
text-fits lim m0 =
    fit-when {X = Whole m0 × Unit {0}} ((λ x. x.0), λ x. (x, tt)) (fit-bind m0 Whole (λ m. Header lim m · Data m.bytes · Closing) (λ m. Loose) (λ m. Unit {0}) (front_fits lim) (λ m w k. tt) begins-any (λ m u.
    fit-done tail-fits (λ a. fit-give m ((λ x. x.0), λ q. (q, tt)))))

pub start-rest : (t : List ℕ) → rest t start ≡ t
unfolding rest
start-rest t = refl

-- read to its end, with this mask
abbrev pub Accepted : ℕ → Mask → List ℕ → Type 0
Accepted lim m t = (e : TextLocation) × (text lim t start ≡ ok m e)

-- a text is read with a mask exactly if it writes that mask
pub exactly : (lim : ℕ) (m : Mask) (t : List ℕ) → Accepted lim m t ↔ Format lim m t
unfolding Format ◌·◌ End
exactly lim m t = (there, back)
  where
    there : Accepted lim m t → Format lim m t
    there (e, a) =
        let (h, (w, r, d, (u, v, q, (x, y, o, k, n), l), g, z)) = (text-fits lim m).to t start e a in
        ((x, y ++ v, sym (start-rest t) ∙ d ∙ cc (g, append-nil w) ∙ q ∙ ap (λ (r : List ℕ). r ++ v) o ∙ append_assoc x y v, k, (y, v, refl, n, l)), h)

    back : Format lim m t → Accepted lim m t
    back ((u, v, q, k, (x, y, o, n, l)), h) =
        (past start t, (text-fits lim m).from t start t [] h (start-rest t ∙ sym (append-nil t)) (u ++ x, y, q ∙ ap (λ (r : List ℕ). u ++ r) o ∙ sym (append_assoc u x y), (u, x, refl, k, n), l) refl)

-- a text writes one mask at most
pub unambiguous : (lim : ℕ) (m n : Mask) (t : List ℕ) → Format lim m t → Format lim n t → m ≡ n
unambiguous lim m n t a b = let (d, p) = (exactly lim m t).1 a in let (e, q) = (exactly lim n t).1 b in cc

-- ---- the same, in the words of the contracts

-- the header with the mask's values, its data bytes and the trailer, one after another
abbrev pub Parts : ℕ → Mask → List ℕ → Type 0
Parts lim m t = (i : TextLocation) × (j : TextLocation) × (e : TextLocation) × (header lim t start ≡ ok (head_of m) i) × (items (bytes_of m.width m.height) true t i ≡ ok m.bytes j) × (trailer t j ≡ ok tt e)

accepted-parts : (lim : ℕ) (m : Mask) (t : List ℕ) → Accepted lim m t → Parts lim m t
unfolding text front body give trailer
accepted-parts lim m t (e, a) =
    bind-case (front lim) (λ n. tail >> give n) t start a (λ n f p q. bind-case tail (λ x. give n) t f q (λ x g q1 q2.
    bind-case (header lim) (λ h. body h >>= λ l. give (made h l)) t start p (λ h i p1 p2. bind-case (body h) (λ l. give (made h l)) t i p2 (λ l k p3 p4.
    bind-case (items (bytes_of h.width h.height) true) (λ l. closing >> give l) t i p3 (λ b j p5 p6. bind-case closing (λ y. give b) t j p6 (λ y k1 p7 p8.
    last h l n f b i j k k1 g q1 q2 p1 p4 p5 p7 p8))))))
  where
    last : (h : Head) (l : List ℕ) (n : Mask) (f : TextLocation) (b : List ℕ) (i j k k1 g : TextLocation) → tail t f ≡ ok tt g → ok n g ≡ ok m e → header lim t start ≡ ok h i → ok (made h l) k ≡ ok n f
        → items (bytes_of h.width h.height) true t i ≡ ok b j → closing t j ≡ ok tt k1 → ok b k1 ≡ ok l k → Parts lim m t
    last h l n f b i j k k1 g q1 q2 p1 p4 p5 p7 p8 =
        let u : made h l ≡ m = cc in
        let z : b ≡ l = cc in
        let y : k1 ≡ f = cc in
        (i, j, g, rw (← u) p1, rw (← u) (p5 ∙ ap (λ (r : List ℕ). ok r j) z), bind_ok closing (λ a. tail) t j tt k1 p7 ∙ rw y q1)

parts-accepted : (lim : ℕ) (m : Mask) (t : List ℕ) → Parts lim m t → Accepted lim m t
unfolding text front body give trailer
parts-accepted lim m t (i, j, e, p, q, r) =
    bind-case closing (λ a. tail) t j r (λ x k r1 r2. (
      e,
      bind_ok (front lim) (λ n. tail >> give n) t start m k
          (bind_ok (header lim) (λ h. body h >>= λ l. give (made h l)) t start (head_of m) i p
          ∙ bind_ok (body (head_of m)) (λ l. give (made (head_of m) l)) t i m.bytes k
          (bind_ok (items (bytes_of m.width m.height) true) (λ l. closing >> give l) t i m.bytes j q ∙ bind_ok closing (λ y. give m.bytes) t j tt k r1))
          ∙ bind_ok tail (λ y. give m) t k tt e r2,
    ))

pub parts : (lim : ℕ) (m : Mask) (t : List ℕ) → Parts lim m t ↔ Format lim m t
parts lim m t = ((λ p. (exactly lim m t).0 (parts-accepted lim m t p)), λ f. accepted-parts lim m t ((exactly lim m t).1 f))
