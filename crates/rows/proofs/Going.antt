-- The row loop: what holds before each data byte, and what each way on from there gives.
use mathlib.Core.Path.{◌≡◌, refl, sym, ap, ◌∙◌}
use Prim.Native.Nat.{ℕ, suc, ◌+◌, ◌-◌, ◌*◌, ◌/◌, ◌≤◌, ◌<◌, min}
use native.Mathlib.Omega.{arith}
use native.Mathlib.Nat.{suc-mul, mul_comm, mul-le-mul_right, div-mul-le_self}
use mathlib.Core.Bool.{Bool, true, false, true≢false}
use mathlib.Core.List.{List, [], ◌∷◌, ◌++◌, append_assoc, append-nil}
use lib.ListN.{length, get_or, take, drop}
use lib.Dec.{eqb, ltb}
use borrow.Author.Tests.{eq-eqb, ne_eqb, lt-ltb, le-ltb}
use Rattle.std.specs.Int.{div_ceil}
use Rattle.std.specs.Prelude.{Result as Answer, Ok}
use Rattle.text.specs.declared.TextLocation.{TextLocation}
use Rattle.text.specs.declared.TextReader.{TextReader}
use Rattle.text.specs.Rest.{Sound}
use Rattle.text.proofs.PlaceLaws.{reach-sound}
use Rattle.text.specs.Reader.{Result, ok, stop, bad, Reader, ◌>>=◌, then}
use Rattle.text.specs.Leaf.{give, need}
use Rattle.lexical.specs.declared.XbmPart.{XbmPart}
use Rattle.lexical.specs.Reads.{Reads}
use Rattle.body.specs.Data.{Log, item, items, trailer, log_of, logged, row_bytes}
use Rattle.body.proofs.Data.{item-local, item-grows}
use Rattle.cells.specs.Cells.{cell, painted, count}
use Rattle.cells.specs.Stores.{dab, unpacked}
use Rattle.rows.specs.Rows.{ending, whole}
use Rattle.cells.proofs.Stores.{length-dab, dab-part}
use Rattle.cells.proofs.Paint.{length_more, paint-step, painted-all}

-- the values of a log
abbrev values : Log → List ℕ
values [] = []
values (x ∷ l) = x.0 ∷ values l

values-more : (l : Log) (v : ℕ) (q : TextLocation) → values (l ++ (v, q) ∷ []) ≡ values l ++ v ∷ []
values-more [] v q = refl
values-more (x ∷ l) v q = ap (λ (r : List ℕ). x.0 ∷ r) (values-more l v q)

count-is : (w h n : ℕ) → count w h n ≡ min (n / w) h * row_bytes w
count-is w h n = mul_comm (row_bytes w) (min (n / w) h)

-- the place after a data byte is sound
item-sound : (f : Bool) (t : List ℕ) (i : TextLocation) {v : ℕ} {q : TextLocation} → ok v q ≡ item f t i → Sound q
item-sound f t i {v} {q} e = reach-sound t i (rw (← e) at ((item-local f).reach t i)) (rw (← e) at ((item-grows f).grows t i) tt)

-- ---- what is left of the whole rows of n cells, and what is logged, where k data bytes are read, those of the log l

-- what follows their data bytes
abbrev after_rows : ℕ → ℕ → ℕ → List ℕ → Reader (List ℕ)
after_rows w h n = ending (eqb (n / w) h) (ltb (n / w) h) (eqb (count w h n) 0)

pub left : (w h n : ℕ) → Bool → ℕ → Log → Reader (List ℕ)
left w h n f k l = items (count w h n - k) f >>= λ r. after_rows w h n (values l ++ r)

pub held : (w h n : ℕ) → Bool → ℕ → Log → List ℕ → TextLocation → Log
held w h n f k l t i = l ++ log_of (count w h n - k) f t i

abbrev pub logs : Result ℕ → Log → (ℕ → TextLocation → Log) → Log
logs (ok v e) l k = k v e
logs (stop c e) l k = l
logs (bad c e) l k = l

module _ (w h n k : ℕ) (f : Bool) (l : Log) (t : List ℕ) (i : TextLocation) where
  -- one data byte more, if it is there
  module _ (k' : ℕ) (hk : k < count w h n) (e : k' ≡ k + 1) where
    one_less : count w h n - k ≡ suc (count w h n - k')
    one_less = omega arith

    left-one : left w h n f k l t i ≡ then (item f t i) (λ v e. left w h n false k' (l ++ (v, e) ∷ []) t e)
    unfolding left items ◌>>=◌ give
    left-one = rw one_less (go (item f t i))
      where
        on : (v : ℕ) (e : TextLocation) (r : Result (List ℕ)) → then (then r (λ m e. ok (v ∷ m) e)) (λ m e. after_rows w h n (values l ++ m) t e)
            ≡ then r (λ m q. after_rows w h n (values (l ++ (v, e) ∷ []) ++ m) t q)
        on v e (ok m q) = ap (λ (x : List ℕ). after_rows w h n x t q) (sym (rw (values-more l v e) (append_assoc (values l) (v ∷ []) m)))
        on v e (stop c q) = refl
        on v e (bad c q) = refl

        go : (r : Result ℕ) → then (then r (λ v e. then (items (count w h n - k') false t e) (λ m e. ok (v ∷ m) e))) (λ m e. after_rows w h n (values l ++ m) t e)
            ≡ then r (λ v e. then (items (count w h n - k') false t e) (λ m e'. after_rows w h n (values (l ++ (v, e) ∷ []) ++ m) t e'))
        go (ok v e) = on v e (items (count w h n - k') false t e)
        go (stop c e) = refl
        go (bad c e) = refl

    held-one : held w h n f k l t i ≡ logs (item f t i) l (λ v e. held w h n false k' (l ++ (v, e) ∷ []) t e)
    unfolding held log_of
    held-one = rw one_less (go (item f t i))
      where
        go : (r : Result ℕ) → l ++ logged r (λ e. log_of (count w h n - k') false t e) ≡ logs r l (λ v e. (l ++ (v, e) ∷ []) ++ log_of (count w h n - k') false t e)
        go (ok v e) = sym (append_assoc l ((v, e) ∷ []) (log_of (count w h n - k') false t e))
        go (stop c e) = append-nil l
        go (bad c e) = append-nil l

  -- no data byte more
  module _ (e : k ≡ count w h n) where
    none_left : count w h n - k ≡ 0
    none_left = omega arith

    left-none : left w h n f k l t i ≡ ending (eqb (n / w) h) (ltb (n / w) h) (eqb k 0) (values l) t i
    unfolding left items give ◌>>=◌
    left-none = rw (none_left, append-nil (values l), e)

    held-none : held w h n f k l t i ≡ l
    unfolding held log_of
    held-none = rw none_left (append-nil l)

-- where they are read up to byte j of row y, of which each has a bytes
module _ (w h n y a : ℕ) (f : Bool) (l : Log) (t : List ℕ) (i : TextLocation) (ha : a ≡ div_ceil w 8) where
  module _ (j : ℕ) (hy : y < min (n / w) h) (hj : j < a) where
    more : y * a + j < count w h n
    more =
        let u : a ≡ row_bytes w = omega (arith, ha) in
        omega (arith, mul-le-mul_right (row_bytes w) hy, suc-mul y (row_bytes w), count-is w h n, ap (λ (n : ℕ). y * n) u, u)

    pub left_more : left w h n f (y * a + j) l t i ≡ then (item f t i) (λ v e. left w h n false (y * a + (j + 1)) (l ++ (v, e) ∷ []) t e)
    left_more = left-one w h n (y * a + j) f l t i (y * a + (j + 1)) more (omega arith)

    pub held_more : held w h n f (y * a + j) l t i ≡ logs (item f t i) l (λ v e. held w h n false (y * a + (j + 1)) (l ++ (v, e) ∷ []) t e)
    held_more = held-one w h n (y * a + j) f l t i (y * a + (j + 1)) more (omega arith)

  module _ (hy : y ≡ min (n / w) h) where
    all_read : y * a ≡ count w h n
    all_read =
        let u : a ≡ row_bytes w = omega (arith, ha) in
        rw (hy, u) (sym (count-is w h n))

    pub held_all : held w h n f (y * a) l t i ≡ l
    held_all = held-none w h n (y * a) f l t i all_read

    pub left_even : n / w ≡ h → left w h n f (y * a) l t i ≡ then (trailer t i) (λ u e. ok (values l) e)
    unfolding ◌>>=◌ give
    left_even z = left-none w h n (y * a) f l t i all_read ∙ rw (eq-eqb (n / w) h z)

    pub left_many : h < n / w → left w h n f (y * a) l t i ≡ then (trailer t i) (λ u e. bad 31 e)
    unfolding ◌>>=◌ need
    left_many z = left-none w h n (y * a) f l t i all_read ∙ rw (ne_eqb (n / w) h (λ e. omega arith), le-ltb (n / w) h (omega arith))

    pub left_few : n / w < h → f ≡ eqb (y * a) 0 → left w h n f (y * a) l t i ≡ then (item f t i) (λ v e. bad 31 e)
    unfolding ◌>>=◌ need
    left_few z e = left-none w h n (y * a) f l t i all_read ∙ rw (ne_eqb (n / w) h (λ e. omega arith), lt-ltb (n / w) h z, e)

-- ---- what holds where k data bytes are read

pub record Going (w h : ℕ) (r₀ : TextReader) (lent p : List ℕ) (r : TextReader) (f : Bool) (k : ℕ) : Type 0 where
  pub kept : r.text ≡ r₀.text
  pub done : Log
  pub size : length p ≡ length lent
  pub room : (y : ℕ) → y < length lent / w → y * w + w ≤ length p
  pub long : length done ≡ k
  pub cells : (c : ℕ) → get_or p c 0 ≡ cell w done c (get_or lent c 0)
  pub stored : p ≡ painted w done lent
  pub fresh : f ≡ eqb k 0
  pub sound : f ≡ false → Sound r.location
  pub log : held w h (length lent) f k done r.text.now r.location ≡ log_of (count w h (length lent)) true r₀.text.now r₀.location
  pub rest : left w h (length lent) f k done r.text.now r.location ≡ whole w h (length lent) r₀.text.now r₀.location

pub going_start : (w h : ℕ) (r₀ : TextReader) (lent : List ℕ) (k : ℕ) → k ≡ 0 → Going w h r₀ lent lent r₀ true k
unfolding left held whole cell
going_start w h r₀ lent k e =
    let z : count w h (length lent) - k ≡ count w h (length lent) = omega arith in
    record {
      kept = refl;
      done = [];
      size = refl;
      room = λ y l. omega (arith, mul-le-mul_right w l, suc-mul y w, div-mul-le_self (length lent) w);
      long = sym e;
      cells = λ c. refl;
      stored = painted-all w [] lent lent refl (λ c. refl);
      fresh = rw e;
      sound = λ z. absurd (true≢false z);
      log = rw z;
      rest = rw z;
    }

-- byte j of row y is read, and its n cells are stored
module _ (w h : ℕ) (r₀ : TextReader) (lent p : List ℕ) (r : TextReader) (f : Bool) (y a j : ℕ) (g : Going w h r₀ lent p r f (y * a + j))
    (ha : a ≡ div_ceil w 8) (hy : y < min (length lent / w) h) (hj : j < a) where
  bytes : a ≡ row_bytes w
  bytes = omega (arith, ha)

  in_row : 8 * j < w
  in_row = omega (arith, bytes)

  pub left-fits : 8 * j ≤ w
  left-fits = omega (arith, in_row)

  pub going_part : {r' : TextReader} {m : Answer ℕ XbmPart} {v n : ℕ} {c : List ℕ} → Reads (item f) r r' m → m ≡ Ok v → n ≡ min 8 (w - 8 * j)
      → c ≡ unpacked v (take (y * w + 8 * j + n - (y * w + 8 * j)) (drop (y * w + 8 * j) p))
      → Going w h r₀ lent (take (y * w + 8 * j) p ++ (c ++ drop (y * w + 8 * j + n - (y * w + 8 * j)) (drop (y * w + 8 * j) p))) r' false (y * a + (j + 1))
  going_part {r'} {v = v} {n} e o hn hc =
      let s : ℕ = y * w + 8 * j in
      let within : s + n ≤ length p = omega (arith, g.room y (omega arith), in_row) in
      let got : ok v r'.location ≡ item f r.text.now r.location = rw o at e.answer in
      let z = length-dab s v n p ∙ g.size in
      let q = paint-step w (omega (arith, in_row)) y j (omega (arith, bytes)) s n refl hn lent p g.done v r'.location (g.long ∙ ap (λ (n : ℕ). y * n + j) bytes) within g.cells in
      let l = left_more w h (length lent) y a f g.done r.text.now r.location ha j hy hj in
      let m = held_more w h (length lent) y a f g.done r.text.now r.location ha j hy hj in
      rw (hc, dab-part s v n (s + n) p refl within)
      (record {
        kept = e.kept ∙ g.kept;
        done = g.done ++ (v, r'.location) ∷ [];
        size = z;
        room = λ y l. omega (arith, g.room y l, z, g.size);
        long = omega (arith, length_more g.done (v, r'.location), g.long);
        cells = q;
        stored = painted-all w (g.done ++ (v, r'.location) ∷ []) (dab s v n p) lent z q;
        fresh = sym (ne_eqb (y * a + (j + 1)) 0 (λ z. omega arith));
        sound = λ z. item-sound f r.text.now r.location got;
        log = rw e.kept (sym (rw (← got) at m) ∙ g.log);
        rest = rw e.kept (sym (rw (← got) at l) ∙ g.rest);
      })

pub ruleset going_laws = (going_start, going_part, left_more, held_more, held_all, left_even, left_many, left_few)
