-- What the readers say of saving a text, in the words of the claim: from the text's start, and after what stands before a line.
use Rattle.std.proofs.Math.Path.{◌≡◌}
use Rattle.std.specs.Prelude.{refl, ◌↔◌, ℕ, zero, suc, ◌≤◌, Bool, length, take, drop}
use Rattle.std.proofs.Common.{sym, ap, ◌∙◌, arith, le_of_suc-le-suc, not-suc-le-zero, take_all}
use mathlib.Core.List.{List, [], ◌∷◌, ◌++◌}
use Rattle.text.specs.declared.TextLocation.{TextLocation}
use Rattle.text.specs.Place.{byte_of, start}
use Rattle.text.proofs.PlaceLaws.{start-sound}
use Rattle.text.proofs.Rest.{reach-inside}
use Rattle.text.specs.Reader.{Result, ok, stop, bad, Reader, ◌>>=◌, Same}
use Rattle.text.specs.Leaf.{give}
use Rattle.text.specs.Outcome.{refused, outcome}
use Rattle.header.specs.Header.{Head, header}
use Rattle.rows.specs.Rows.{whole}
use Rattle.image.specs.Reading.{picture, reading}
use Rattle.grammar.specs.Lang.{Lang, ◌·◌}
use Rattle.grammar.proofs.Bind.{bind_ok}
use Rattle.grammar.proofs.Fits.{Follow, Any, At, Fits}
use Rattle.claims.specs.Terms.{Begun}
use Rattle.claims.proofs.Numbers.{Numbered, whole-numbered, give-numbered, bind-numbered}
use Rattle.refusals.proofs.Stages.{stop-first, stop-second, at_both, at-parts, one_end, read_at, begun}
use Rattle.places.specs.Savable.{Savable, taken, ended}
use Rattle.places.proofs.Saving.{Good, good-on, front_same, Left, wrong, finished, Saved, Open, fits-keep, walk-word}

-- ---- the same first bytes, as a text that begins with them

pub same-split : (n : ℕ) (t u : List ℕ) → n ≤ length t → Same t u n → u ≡ take n t ++ drop n u
same-split zero t u h s = refl
same-split (suc n) [] u h s = absurd (not-suc-le-zero h)
same-split (suc n) (x ∷ t) [] h s = let z : ◌≡◌ {A = ℕ} 0 1 = cc (s 0 (omega arith)) in absurd (omega arith)
same-split (suc n) (x ∷ t) (y ∷ u) h s =
    let z : y ≡ x = cc (s 0 (omega arith)) in
    rw z (ap (λ (l : List ℕ). x ∷ l) (same-split n t u (le_of_suc-le-suc h) (λ j k. s (suc j) (omega arith))))

pub good_start : (t : List ℕ) → Good t start
good_start t = record { sound = start-sound; inside = omega arith }

-- p refuses at i; a text x of the kind L keeps the bytes; and where p refuses so, no text is of that kind
pub savable : {A : Type 0} {p : Reader A} (L : Lang) (t : List ℕ) (i : TextLocation) (c : ℕ) (e : TextLocation) (n : ℕ) → byte_of e ≤ length t → byte_of i ≤ n → Left p t i c e n → (x : List ℕ) → Same t x n → L x
    → ((u : List ℕ) → Same t u (byte_of i) → p u i ≡ stop c e → L u → ⊥) → Savable t e L
savable L t i c e n w l (wrong z k) x s h g =
    taken n z (drop n x, rw (same-split n t x (omega arith) s) at h) (λ v y. (let o : Same t (take (byte_of e) t ++ v) (byte_of e) = front_same (byte_of e) t v w in g (take (byte_of e) t ++ v) (λ j b. o j (omega arith)) (k (take (byte_of e) t ++ v) o) y))
savable L t i c e n w l (finished z k) x s h g =
    let y : take n t ≡ t = take_all n t (omega arith) in
    ended k (drop n x, rw (ap (λ (r : List ℕ). r ++ drop n x) (sym y) ∙ sym (same-split n t x (omega arith) s)) h)

-- the same texts
pub savable-same : {K L : Lang} (t : List ℕ) (e : TextLocation) → ((u : List ℕ) → K u ↔ L u) → Savable t e K → Savable t e L
savable-same t e f (taken n z (v, k) g) = taken n z (v, (f (take n t ++ v)).0 k) (λ r l. g r ((f (take (byte_of e) t ++ r)).1 l))
savable-same t e f (ended z (v, k)) = ended z (v, (f (t ++ v)).0 k)

-- ---- from the start

pub at_start : {B : Type 0} {raw : Reader B} {G : Follow} (T : B → Type 0) (L : B → Lang) → ((b : B) → Fits raw b (T b) (L b) Any) → Open raw Any G → (t : List ℕ) (c : ℕ) (e : TextLocation) → raw t start ≡ stop c e → Savable t e (λ u. (b : B) × T b × Begun (L b) u)
unfolding Any
at_start {B} {raw} {G} T L fits opens t c e q = go (opens.saves t start c e (good_start t) q)
  where
    none-there : (u : List ℕ) → Same t u 0 → raw u start ≡ stop c e → (b : B) × T b × Begun (L b) u → ⊥
    none-there u s z (b, x, y) =
        let (m, a) = (begun (L b) u).1 y in
        let o : raw u start ≡ ok b m = (read_at (fits b) u start m).1 (x, a) in
        let v : ◌≡◌ {A = ℕ} 0 1 = cc in omega arith

    go : Saved raw (λ r. Unit {0}) G t start c e → Savable t e (λ u. (b : B) × T b × Begun (L b) u)
    go (n, l, k, w) =
        let r : raw w.text start ≡ ok w.value w.end = w.reads w.text (λ j k. refl) tt in
        let (x, a) = (fits w.value).to w.text start w.end r in
        savable (λ u. (b : B) × T b × Begun (L b) u) t start c e n (reach-inside t start (rw q at (opens.able.local.reach t start)) (omega arith)) l k w.text w.same
        (w.value, x, (begun (L w.value) w.text).0 (w.end, a)) none-there

-- ---- after what stands before it

-- a refusal with a line's number is the line's
pub staged : {A B C : Type 0} (pre : Reader A) (line : A → Reader B) (next : A → B → Reader C) {lo hi lo' hi' : ℕ} {bare bare' : ℕ → Bool} (c : ℕ) → Numbered lo hi bare pre → (lo ≤ c → c ≤ hi → ⊥) → ((a : A) (b : B) → Numbered lo' hi' bare' (next a b)) → (lo' ≤ c → c ≤ hi' → ⊥)
    → (t : List ℕ) (e : TextLocation) → (pre >>= λ a. line a >>= next a) t start ≡ stop c e → (a : A) × (m : TextLocation) × (pre t start ≡ ok a m) × (line a t m ≡ stop c e)
staged pre line next c np o nn oo t e q =
    let (a, m, u, v) = (stop-second pre (λ a. line a >>= next a) c t start np o).0 (e, q) in
    (a, m, u, (stop-first (line a) (next a) c t m (nn a) oo e).0 (sym (bind_ok pre (λ a. line a >>= next a) t start a m u) ∙ q))

module _ {A B C : Type 0} (pre : Reader A) (line : A → Reader B) (next : A → B → Reader C) (K : A → Lang) (H : A → Type 0) (T : B → Type 0) (L : A → B → Lang) (fits : (a : A) → Fits pre a (Unit {0}) (K a) Any) (holds : (a : A) (w : List ℕ) → K a w → H a) (fit : (a : A) → H a → (b : B) → Fits (line a) b (T b) (L a b) Any) (opens : (a : A) → H a → Open (line a) Any Any) where
  pub at-line : (t : List ℕ) (c : ℕ) (e : TextLocation) (a : A) (m : TextLocation) → pre t start ≡ ok a m → line a t m ≡ stop c e → Savable t e (λ u. (b : B) × T b × Begun (K a · L a b) u)
  unfolding Any
  at-line t c e a m u z = there ((read_at (fits a) t start m).0 u).1
    where
      again : (y : List ℕ) → Same t y (byte_of m) → pre y start ≡ ok a m
      again y s = fits-keep {F = λ r. Unit {0}} (λ b. Unit {0}) K fits (λ r h. tt) t y start a m u s tt

      there : At (K a) (λ r. Unit {0}) t start m → Savable t e (λ u. (b : B) × T b × Begun (K a · L a b) u)
      there (w, r, d, k, f, o) = go ((opens a h).saves t m c e g z)
        where
          h : H a
          h = holds a w k

          g : Good t m
          g = good-on (good_start t) (rw (d, o) (walk-word w r start))

          within : byte_of e ≤ length t
          within = reach-inside t m (rw z at ((opens a h).able.local.reach t m)) g.inside

          none-there : (y : List ℕ) → Same t y (byte_of m) → line a y m ≡ stop c e → (b : B) × T b × Begun (K a · L a b) y → ⊥
          none-there y s j (b, x, v) =
              let (n, q) = (begun (K a · L a b) y).1 v in
              let (i, p, l) = at-parts (K a) (L a b) y start n q in
              let same : i ≡ m = one_end (fits a) y start i m p ((read_at (fits a) y start m).0 (again y s)).1 in
              let r : line a y m ≡ ok b n = rw same at ((read_at (fit a h b) y i n).1 (x, l)) in
              let v : ◌≡◌ {A = ℕ} 0 1 = cc in omega arith

          go : Saved (line a) (λ r. Unit {0}) (λ r. Unit {0}) t m c e → Savable t e (λ u. (b : B) × T b × Begun (K a · L a b) u)
          go (n, l, cut, y) =
              let v : pre y.text start ≡ ok a m = again y.text (λ j i. y.same j (omega arith)) in
              let q : line a y.text m ≡ ok y.value y.end = y.reads y.text (λ j i. refl) tt in
              let (x, p) = (fit a h y.value).to y.text m y.end q in
              savable (λ u. (b : B) × T b × Begun (K a · L a b) u) t m c e n within l cut y.text y.same
              (y.value, x, (begun (K a · L a y.value) y.text).0 (y.end, at_both (K a) (L a y.value) y.text start m y.end ((read_at (fits a) y.text start m).0 v).1 p))
              none-there

  -- a refusal with the line's number
  pub at_stage : {lo hi lo' hi' : ℕ} {bare bare' : ℕ → Bool} (c : ℕ) → Numbered lo hi bare pre → (lo ≤ c → c ≤ hi → ⊥) → ((a : A) (b : B) → Numbered lo' hi' bare' (next a b)) → (lo' ≤ c → c ≤ hi' → ⊥)
      → (t : List ℕ) (e : TextLocation) → (pre >>= λ a. line a >>= next a) t start ≡ stop c e → (a : A) × Begun (K a) t × Savable t e (λ u. (b : B) × T b × Begun (K a · L a b) u)
  at_stage c np o nn oo t e q =
      let (a, m, u, v) = staged pre line next c np o nn oo t e q in
      (a, (begun (K a) t).0 (m, ((read_at (fits a) t start m).0 u).1), at-line t c e a m u v)

-- ---- whose refusal a reading tells

module _ (text name pixels : List ℕ) (c : ℕ) (p : TextLocation) where
  abbrev lim : ℕ
  lim = length name

  pub told-picture : (reading text name pixels).answer ≡ refused c p → picture lim (length pixels) text start ≡ stop c p
  unfolding reading
  told-picture q = go (picture lim (length pixels) text start) q
    where
      go : (r : Result (Head × List ℕ)) → outcome (λ (x : Head × List ℕ). x.0) r ≡ refused c p → r ≡ stop c p
      go (ok a e) q = let z : ◌≡◌ {A = ℕ} 0 1 = cc in absurd (omega arith)
      go (bad d e) q = let z : ◌≡◌ {A = ℕ} 0 1 = cc in absurd (omega arith)
      go (stop d e) q = cc

  pub told-header : c ≤ 5 → (reading text name pixels).answer ≡ refused c p → header lim text start ≡ stop c p
  unfolding picture
  told-header l q = (stop-first (header lim) pictured c text start (λ h. bind-numbered (whole-numbered h.width h.height (length pixels)) (λ l. give-numbered (h, l))) (λ a b. omega arith) p).0 (told-picture q)
    where
      pictured : Head → Reader (Head × List ℕ)
      pictured h = whole h.width h.height (length pixels) >>= λ l. give (h, l)
