-- What the writer takes and writes is read again as it was; and what the reading accepts can be written.
use Rattle.std.specs.Prelude.{◌≡◌, refl, ◌⊎◌, ℕ, zero, suc, ◌+◌, ◌*◌, ◌/◌, ◌%◌, ◌≤◌, ◌<◌, Bool, true, false, not, ◌||◌, List, [], ◌∷◌, length, take, get_or, ℤ, eqb}
use Rattle.std.proofs.Common.{sym, ap, ◌∙◌, subst, inl, inr, arith, mul_comm, mod-lt, div-add-mod', div-lt_iff_lt-mul, mul-le-mul_right, div-mul-le_self, le_of_suc-le-suc, not-suc-le-zero, length-append, length-take-le, eqb-true}
use Rattle.std.proofs.Math.Decide.{dec_lt}
use Rattle.std.proofs.Math.Nat.{mul-div_right}
use Rattle.std.proofs.lemmas.Bool.{false≢true, eqb-false}
use Rattle.std.proofs.Math.Option.{Option, some}
use Rattle.std.proofs.Math.ListN.{get_elem?}
use Rattle.std.proofs.Math.Seq.{take-append_seam}
use Rattle.text.specs.Ascii.{ascii}
use Rattle.text.specs.Outcome.{accepted, unplaced}
use Rattle.header.specs.Header.{Head}
use Rattle.body.specs.Data.{row_bytes, bytes_of}
use Rattle.image.specs.Reading.{reading}
use Rattle.data_text.specs.Packed.{bit_at, packed_at}
use Rattle.data_text.proofs.Bits.{packed-at, packed-bit}
use Rattle.writer.specs.Written.{written}
use Rattle.writer.specs.Writing.{writing}
use Rattle.grammar.specs.Lang.{◌·◌, All}
use Rattle.grammar.specs.Grammar.{Mask, solid, Side, Define, Symbol, Header, Format}
use Rattle.claims.specs.Terms.{head_of, Fitting, bit, Rule}
use Rattle.claims.specs.Written.{Hots}
use Rattle.claims.proofs.Prints.{hot-ranges}
use Rattle.claims.proofs.Painted.{has}
use Rattle.claims.specs.Claims.{Filled}
use Rattle.claims.proofs.Claims.{accepts, fills}
use Rattle.round_trip.specs.Terms.{mask_of, BadName, BadCell, Taken, Back, picture_of}
use Rattle.round_trip.proofs.Words.{at-cell}
use Rattle.round_trip.proofs.Texts.{written-format}
use Rattle.round_trip.proofs.Answers.{cases, refused-so, no_room, room, wrong_name, wrong-side, wrong_size, wrong-cell}

-- ---- names

solid-of : (b : ℕ) → ((b ≡ 32) ⊎ ((b ≡ 9) ⊎ (b ≡ 10)) → ⊥) → solid b ≡ true
solid-of b n = go (eqb b 32) (eqb b 9) (eqb b 10) refl refl refl
  where
    go : (r s t : Bool) → eqb b 32 ≡ r → eqb b 9 ≡ s → eqb b 10 ≡ t → not ((r || s) || t) ≡ true
    go true s t e f g = absurd (n (inl (eqb-true b 32 e)))
    go false true t e f g = absurd (n (inr (inl (eqb-true b 9 f))))
    go false false true e f g = absurd (n (inr (inr (eqb-true b 10 g))))
    go false false false e f g = refl

solid-not : (b : ℕ) → (b ≡ 32) ⊎ ((b ≡ 9) ⊎ (b ≡ 10)) → solid b ≡ true → ⊥
solid-not b (inl e) s = false≢true (rw e at s)
solid-not b (inr (inl e)) s = false≢true (rw e at s)
solid-not b (inr (inr e)) s = false≢true (rw e at s)

pub good-short : (name : List ℕ) → (BadName name → ⊥) → length name ≤ 250
good-short name n = go (dec_lt 250 (length name))
  where
    go : Dec (250 < length name) → length name ≤ 250
    go (yes l) = absurd (n (inl l))
    go (no l) = omega arith

good-solid : (name : List ℕ) → (BadName name → ⊥) → All solid name
good-solid [] n = tt
good-solid (b ∷ name) n = (solid-of b (λ k. n (inr (0, b, refl, k))), good-solid name (λ k. n (behind k)))
  where
    behind : BadName name → BadName (b ∷ name)
    behind (inl l) = inl (omega arith)
    behind (inr (i, x, e, k)) = inr (suc i, x, e, k)

solid-at : (name : List ℕ) → All solid name → (i b : ℕ) → get_elem? name i ≡ some b → solid b ≡ true
solid-at [] s i b e = let z : ◌≡◌ {A = ℕ} 0 1 = cc in absurd (omega arith)
solid-at (x ∷ name) (s, a) zero b e = let z : x ≡ b = cc in rw (← z) s
solid-at (x ∷ name) (s, a) (suc i) b e = solid-at name a i b e

solid-good : (name : List ℕ) → length name ≤ 250 → All solid name → BadName name → ⊥
solid-good name l s (inl k) = omega arith
solid-good name l s (inr (i, b, e, k)) = solid-not b k (solid-at name s i b e)

-- ---- cells

-- a cell is ink or none
abbrev Either : Option ℕ → Type 0
Either v = (v ≡ some 0) ⊎ (v ≡ some 255)

good-at : (cells : List ℕ) → (BadCell cells → ⊥) → (c : ℕ) → c < length cells → Either (get_elem? cells c)
good-at cells n c l = go (eqb (get_or cells c 0) 0) (eqb (get_or cells c 0) 255) refl refl (has cells c l)
  where
    go : (s t : Bool) → eqb (get_or cells c 0) 0 ≡ s → eqb (get_or cells c 0) 255 ≡ t → get_elem? cells c ≡ some (get_or cells c 0) → Either (get_elem? cells c)
    go true t e f q = inl (q ∙ ap (λ (x : ℕ). some x) (eqb-true (get_or cells c 0) 0 e))
    go false true e f q = inr (q ∙ ap (λ (x : ℕ). some x) (eqb-true (get_or cells c 0) 255 f))
    go false false e f q = absurd (n (c, get_or cells c 0, q, eqb-false (get_or cells c 0) 0 e, eqb-false (get_or cells c 0) 255 f))

inside : (l : List ℕ) (c x : ℕ) → get_elem? l c ≡ some x → c < length l
inside [] c x e = let z : ◌≡◌ {A = ℕ} 0 1 = cc in absurd (omega arith)
inside (y ∷ l) zero x e = omega arith
inside (y ∷ l) (suc c) x e = omega (arith, inside l c x e)

either-good : (cells : List ℕ) → ((c : ℕ) → c < length cells → Either (get_elem? cells c)) → BadCell cells → ⊥
either-good cells f (c, x, e, k, l) = go (f c (inside cells c x e))
  where
    go : Either (get_elem? cells c) → ⊥
    go (inl q) = let z : x ≡ 0 = cc in k z
    go (inr q) = let z : x ≡ 255 = cc in l z

bit-ink : (cells : List ℕ) (c : ℕ) → get_elem? cells c ≡ some 0 → bit_at cells c ≡ 1
bit-ink cells c e = rw (at-cell cells c 255 0 e)

bit-none : (cells : List ℕ) (c : ℕ) → get_elem? cells c ≡ some 255 → bit_at cells c ≡ 0
bit-none cells c e = rw (at-cell cells c 255 255 e)

same-cells : (l m : List ℕ) → length l ≡ length m → ((i : ℕ) → i < length l → get_elem? l i ≡ get_elem? m i) → l ≡ m
same-cells [] [] e f = refl
same-cells [] (y ∷ m) e f = absurd (omega arith)
same-cells (x ∷ l) [] e f = absurd (omega arith)
same-cells (x ∷ l) (y ∷ m) e f =
    let z : ◌≡◌ {A = Option ℕ} (some x) (some y) = f 0 (omega arith) in
    let a : x ≡ y = cc in
    let b : l ≡ m = same-cells l m (omega arith) (λ i h. f (suc i) (omega arith)) in
    cc

-- ---- there

module _ (name : List ℕ) (w h : ℕ) (hot : Option (ℤ × ℤ)) (cells : List ℕ) (t : Taken name w h cells) (w1 : w < 4294967296) (h1 : h < 4294967296) (r : Hots hot) where
  pub writes : (limit : ℕ) → 256 ≤ limit → Format limit (mask_of name w h hot cells) (written name w h hot cells)
  writes limit l = written-format name w h hot cells limit (good-solid name t.name-good) (omega (arith, good-short name t.name-good)) t.wide t.high w1 h1 r

  -- a cell by the rule is the cell
  rule-cell : (y i : ℕ) → y < h → i < w → (v : Option ℕ) → Rule (mask_of name w h hot cells) y i v → v ≡ get_elem? cells (y * w + i)
  rule-cell y i hy hi v (b, q, k) =
      let within : y * w + i < length cells = omega (arith, t.size, mul-le-mul_right w hy) in
      let here : y * row_bytes w + i / 8 < bytes_of w h = omega (arith, mul-le-mul_right (row_bytes w) hy) in
      let e : b ≡ packed_at w cells (y * row_bytes w + i / 8) = cc (packed-at w h cells (y * row_bytes w + i / 8) here) in
      let z : bit b (i % 8) ≡ bit_at cells (y * w + i) = ap (λ (x : ℕ). bit x (i % 8)) e ∙ packed-bit w cells y i hi in
      go (good-at cells t.cells-good (y * w + i) within) z k
    where
      go : Either (get_elem? cells (y * w + i)) → bit b (i % 8) ≡ bit_at cells (y * w + i)
          → (((bit b (i % 8) ≡ 1) × (v ≡ some 0)) ⊎ ((bit b (i % 8) ≡ 0) × (v ≡ some 255))) → v ≡ get_elem? cells (y * w + i)
      go (inl e) z (inl (p, q)) = q ∙ sym e
      go (inl e) z (inr (p, q)) = absurd (omega (arith, p, z, bit-ink cells (y * w + i) e))
      go (inr e) z (inl (p, q)) = absurd (omega (arith, p, z, bit-none cells (y * w + i) e))
      go (inr e) z (inr (p, q)) = q ∙ sym e

  module _ (names lent : List ℕ) (ln : 256 ≤ length names) (lp : length lent ≡ w * h) where
    fitting : Fitting (mask_of name w h hot cells) lent
    fitting = ap (λ (n : ℕ). n / w) lp ∙ mul-div_right h t.wide

    filled : Filled (mask_of name w h hot cells) names lent (reading (written name w h hot cells) names lent)
    filled = fills (written name w h hot cells) names lent (mask_of name w h hot cells) (writes (length names) ln) fitting

    cell-back : (c : ℕ) → c < w * h → get_elem? (reading (written name w h hot cells) names lent).pixels c ≡ get_elem? cells c
    cell-back c l =
        let e : c / w * w + c % w ≡ c = div-add-mod' c w in
        let hy : c / w < h = (div-lt_iff_lt-mul t.wide).1 (omega (arith, mul_comm w h)) in
        let hi : c % w < w = mod-lt c t.wide in
        rw e at (rule-cell (c / w) (c % w) hy hi _ (filled.picture (c / w) (c % w) hy hi))

    pub read_back : Back name w h hot cells (reading (written name w h hot cells) names lent)
    read_back = record {
      answer = (accepts (written name w h hot cells) names lent _).1 (mask_of name w h hot cells, refl, writes (length names) ln, fitting);
      called = filled.called;
      pixels = same-cells _ cells (filled.size ∙ lp ∙ sym t.size) (λ c l. cell-back c (omega (arith, filled.size, lp)));
    }

-- ---- by the writer's answer

-- where the writer answers a length, it took the mask, and so many bytes are the text
pub written-so : (name : List ℕ) (w h : ℕ) (hot : Option (ℤ × ℤ)) (cells out : List ℕ) (n : ℕ) → (writing name w h hot cells out).answer ≡ accepted n
    → Taken name w h cells × (take n (writing name w h hot cells out).bytes ≡ written name w h hot cells)
written-so name w h hot cells out n q = go (cases name w h cells)
  where
    refused : (c : ℕ) → (writing name w h hot cells out).answer ≡ unplaced c → ⊥
    refused c e = let z : ◌≡◌ {A = ℕ} 0 1 = cc in omega arith

    go : BadName name ⊎ (((BadName name → ⊥) × ((w ≡ 0) ⊎ (h ≡ 0))) ⊎ (((BadName name → ⊥) × (0 < w) × (0 < h) × (length cells ≡ w * h → ⊥))
        ⊎ (((BadName name → ⊥) × (0 < w) × (0 < h) × (length cells ≡ w * h) × BadCell cells) ⊎ Taken name w h cells)))
        → Taken name w h cells × (take n (writing name w h hot cells out).bytes ≡ written name w h hot cells)
    go (inl b) = absurd (refused 51 (refused-so name w h hot cells out 50 (wrong_name name w h cells b)).0)
    go (inr (inl (g, s))) = absurd (refused 52 (refused-so name w h hot cells out 51 (wrong-side name w h cells g s)).0)
    go (inr (inr (inl (g, a, b, s)))) = absurd (refused 53 (refused-so name w h hot cells out 52 (wrong_size name w h cells g a b s)).0)
    go (inr (inr (inr (inl (g, a, b, s, c))))) = absurd (refused 54 (refused-so name w h hot cells out 53 (wrong-cell name w h cells g a b s c)).0)
    go (inr (inr (inr (inr t)))) = (t, space (dec_lt (length out) (length (written name w h hot cells))))
      where
        space : Dec (length out < length (written name w h hot cells)) → take n (writing name w h hot cells out).bytes ≡ written name w h hot cells
        space (yes l) = absurd (refused 55 (no_room name w h hot cells out t l).0)
        space (no l) =
            let (e, f) = room name w h hot cells out t (omega arith) in
            let z : length (written name w h hot cells) ≡ n = cc in
            rw (f, ← z) (take-append_seam (written name w h hot cells) _)

pub comes_back : (name : List ℕ) (w h : ℕ) (hot : Option (ℤ × ℤ)) (cells out : List ℕ) (n : ℕ) → w < 4294967296 → h < 4294967296 → Hots hot → (writing name w h hot cells out).answer ≡ accepted n
    → (names lent : List ℕ) → 256 ≤ length names → length lent ≡ w * h → Back name w h hot cells (reading (take n (writing name w h hot cells out).bytes) names lent)
comes_back name w h hot cells out n w1 h1 r q names lent ln lp =
    let (t, e) = written-so name w h hot cells out n q in
    rw e (read_back name w h hot cells t w1 h1 r names lent ln lp)

-- ---- and again: what is known of a mask that a text writes

pub record Facts (limit : ℕ) (m : Mask) : Type 0 where
  pub solid-name : All solid m.name
  pub short : length m.name + 6 ≤ limit
  pub wide : 0 < m.width
  pub narrow : m.width < 4294967296
  pub high : 0 < m.height
  pub low : m.height < 4294967296
  pub range : Hots m.hot

pub facts : (limit : ℕ) (m : Mask) (t : List ℕ) → Format limit m t → Facts limit m
unfolding Format Header Define Symbol Side ◌·◌
facts limit m t ((u, v, q, (_, _, _, _, (_, _, _, (_, _, _, _, (_, _, _, _, (s, _, _, (e, sol, len), (_, _, _, _, (_, _, _, (_, w0, w1), _))))), (_, _, _, (_, _, _, _, (_, _, _, _, (_, _, _, _, (_, _, _, _, (_, _, _, (_, h0, h1), _))))), (sp, _, _, hs, _)))), k), n) =
    record { solid-name = sol; short = omega (arith, ap length e, length-append m.name (ascii "_width")); wide = w0; narrow = w1; high = h0; low = h1; range = hot-ranges m.name m.hot sp hs }

take_get : (n : ℕ) (l : List ℕ) (i : ℕ) → i < n → get_elem? (take n l) i ≡ get_elem? l i
take_get zero l i h = absurd (not-suc-le-zero h)
take_get (suc n) [] i h = refl
take_get (suc n) (x ∷ l) zero h = refl
take_get (suc n) (x ∷ l) (suc i) h = take_get n l i (le_of_suc-le-suc h)

rule-either : (m : Mask) (y i : ℕ) (v : Option ℕ) → Rule m y i v → Either v
rule-either m y i v (b, q, inl (p, e)) = inl e
rule-either m y i v (b, q, inr (p, e)) = inr e

-- what is accepted with a name buffer of at most 256 bytes is what the writer takes
module _ (text names lent : List ℕ) (ln : length names ≤ 256) (m : Mask) (f : Format (length names) m text) (r : Fitting m lent) where
  filled-so : Filled m names lent (reading text names lent)
  filled-so = fills text names lent m f r

  fact : Facts (length names) m
  fact = facts (length names) m text f

  enough : m.width * m.height ≤ length lent
  enough = let e : length lent / m.width ≡ m.height = r in let d : length lent / m.width * m.width ≤ length lent = div-mul-le_self (length lent) m.width in omega (arith, rw e at d, mul_comm m.width m.height)

  cells-size : length (picture_of (head_of m) (reading text names lent)) ≡ m.width * m.height
  cells-size = length-take-le (m.width * m.height) (reading text names lent).pixels (omega (arith, filled-so.size, enough))

  cell-either : (c : ℕ) → c < m.width * m.height → Either (get_elem? (picture_of (head_of m) (reading text names lent)) c)
  cell-either c l =
      let e : c / m.width * m.width + c % m.width ≡ c = div-add-mod' c m.width in
      let hy : c / m.width < m.height = (div-lt_iff_lt-mul fact.wide).1 (omega (arith, mul_comm m.width m.height)) in
      let hi : c % m.width < m.width = mod-lt c fact.wide in
      rw (take_get (m.width * m.height) (reading text names lent).pixels c l) (rw e at (rule-either m (c / m.width) (c % m.width) _ (filled-so.picture (c / m.width) (c % m.width) hy hi)))

  taken-mask : Taken m.name m.width m.height (picture_of (head_of m) (reading text names lent))
  taken-mask = record {
    name-good = solid-good m.name (omega (arith, fact.short)) fact.solid-name;
    wide = fact.wide;
    high = fact.high;
    size = cells-size;
    cells-good = either-good (picture_of (head_of m) (reading text names lent)) (λ i h. cell-either i (omega (arith, cells-size)));
  }

-- what is known of an accepted header, and that its picture can be written
pub record Kept (g : Head) (cells : List ℕ) : Type 0 where
  pub taken : Taken g.name g.width g.height cells
  pub narrow : g.width < 4294967296
  pub low : g.height < 4294967296
  pub range : Hots g.hot

pub kept : (text names lent : List ℕ) (g : Head) → length names ≤ 256 → (reading text names lent).answer ≡ accepted g → Kept g (picture_of g (reading text names lent))
kept text names lent g ln q = let (m, e, f, r) = (accepts text names lent g).0 q in go m e f r
  where
    go : (m : Mask) → head_of m ≡ g → Format (length names) m text → Fitting m lent → Kept g (picture_of g (reading text names lent))
    go m e f r =
        subst (λ (x : Head). Kept x (picture_of x (reading text names lent))) e
        (record {
          taken = taken-mask text names lent ln m f r;
          narrow = (fact text names lent ln m f r).narrow;
          low = (fact text names lent ln m f r).low;
          range = (fact text names lent ln m f r).range;
        })
