-- The theorems about what specs/Leaf.antt defines.
use Rattle.std.specs.Prelude.{◌≡◌, ℕ, suc, ◌+◌, ◌<◌, ◌≤◌, Bool, true, false, List, [], ◌∷◌, ◌==◌}
use Rattle.std.proofs.Math.Path.{refl}
use Rattle.std.proofs.Common.{arith}
use Rattle.std.proofs.Math.Option.{Option, none, some}
use Rattle.std.proofs.Math.ListN.{get_elem?}
use Rattle.text.specs.declared.TextLocation.{TextLocation}
use Rattle.text.specs.Place.{rest, after, byte_of}
use Rattle.text.specs.Rest.{Walk, here, on, Reach}
use Rattle.text.proofs.Rest.{walk-ahead, rest-agree}
use Rattle.text.specs.Reader.{Result, end_of, end_byte, Reader, Same, Local, Settled, Firm, Placed, Mild, Grows}
use Rattle.text.specs.Leaf.{give, want, need, Heads, at, Alike, heads, nils, judge, first, one, Move, go_on, halt, stay, moved, scan, run, choose, fork_of, fork, end_if, eot}

pub give-local : {A : Type 0} (a : A) → Local (give a)
unfolding give
give-local a = record { reach = λ t i. here; near = λ t u i h. refl }

pub give-firm : {A : Type 0} (a : A) → Firm (give a)
unfolding give
give-firm a = record { firm = λ t u i w h. refl }

pub give-mild : {A : Type 0} (a : A) → Mild (give a)
unfolding give
give-mild a = record { mild = λ t i. tt }

pub want-local : {A : Type 0} (c : ℕ) (o : Option A) → Local (want c o)
unfolding want
want-local c none = record { reach = λ t i. here; near = λ t u i h. refl }
want-local c (some a) = record { reach = λ t i. here; near = λ t u i h. refl }

pub want-firm : {A : Type 0} (c : ℕ) (o : Option A) → Firm (want c o)
unfolding want
want-firm c none = record { firm = λ t u i w h. refl }
want-firm c (some a) = record { firm = λ t u i w h. refl }

pub want-mild : {A : Type 0} (c : ℕ) (o : Option A) → Mild (want c o)
unfolding want
want-mild c none = record { mild = λ t i. tt }
want-mild c (some a) = record { mild = λ t i. tt }

pub need-local : {A : Type 0} (c : ℕ) (o : Option A) → Local (need c o)
unfolding need
need-local c none = record { reach = λ t i. here; near = λ t u i h. refl }
need-local c (some a) = record { reach = λ t i. here; near = λ t u i h. refl }

pub need-firm : {A : Type 0} (c : ℕ) (o : Option A) → Firm (need c o)
unfolding need
need-firm c none = record { firm = λ t u i w h. refl }
need-firm c (some a) = record { firm = λ t u i w h. refl }

pub at_local : {A : Type 0} {k : List ℕ → TextLocation → Result A} → Heads k → Local (at k)
at_local h = record {
  reach = λ t i. h.goes (rest t i) i;
  near = λ t u i s. h.like (rest t i) (rest u i) i (λ j b. rest-agree t u i j (s (byte_of i + j) (omega arith)));
}

pub alike : (l m : List ℕ) → get_elem? l 0 ≡ get_elem? m 0 → Alike l m
alike [] [] h = nils
alike [] (y ∷ m) h = let z : ◌≡◌ {A = ℕ} 0 1 = cc in absurd (omega arith)
alike (x ∷ l) [] h = let z : ◌≡◌ {A = ℕ} 0 1 = cc in absurd (omega arith)
alike (x ∷ l) (y ∷ m) h = let e : x ≡ y = cc in rw e heads

module _ {A : Type 0} (c : ℕ) (g : ℕ → Option A) where
  judge-end : (o : Option A) (i : TextLocation) → end_of (judge c o i) ≡ i
  judge-end none i = refl
  judge-end (some a) i = refl

  first_goes : (l : List ℕ) (i : TextLocation) → Walk l i (end_of (first c g l i))
  first_goes [] i = here
  first_goes (b ∷ l) i = rw (judge-end (g b) (after b i)) (on here)

  first-same : {l m : List ℕ} (i : TextLocation) → Alike l m → first c g m i ≡ first c g l i
  first-same i nils = refl
  first-same i heads = refl

  pub one_local : Local (one c g)
  unfolding one
  one_local = at_local (record { goes = first_goes; like = λ l m i h. first-same i (alike l m (h 0 (omega (arith, walk-ahead (first_goes l i))))) })

  one-goes : (l : List ℕ) (i : TextLocation) → Settled (first c g l i) → byte_of i < end_byte (first c g l i)
  unfolding after
  one-goes [] i w = absurd w
  one-goes (b ∷ l) i w = rw (judge-end (g b) (after b i)) (omega arith)

  pub one_grows : Grows (one c g)
  unfolding one
  one_grows = record { grows = λ t i. one-goes (rest t i) i }

  pub one-firm : Firm (one c g)
  unfolding one
  one-firm = record { firm = λ t u i w h. first-same i (alike (rest t i) (rest u i) (rest-agree t u i 0 (h (byte_of i + 0) (omega (arith, one-goes (rest t i) i w))))) }

  pub one-mild : Mild (one c g)
  unfolding one
  one-mild = record { mild = λ t i. go (rest t i) i }
    where
      fin : (x : Option A) (i : TextLocation) → Placed (judge c x i)
      fin none i = tt
      fin (some a) i = tt

      go : (l : List ℕ) (i : TextLocation) → Placed (first c g l i)
      go [] i = tt
      go (b ∷ l) i = fin (g b) (after b i)

module _ {S A : Type 0} (c : ℕ) (step : S → ℕ → Move S A) (fin : S → Option A) where
  scan-goes : (s : S) (l : List ℕ) (i : TextLocation) → Walk l i (end_of (scan c step fin s l i))
  scan-goes s [] i = rw (judge-end c (λ b. none) (fin s) i) here
  scan-goes s (x ∷ l) i = go (step s x) (λ s'. scan-goes s' l (after x i))
    where
      go : (m : Move S A) → ((s' : S) → Walk l (after x i) (end_of (scan c step fin s' l (after x i)))) → Walk (x ∷ l) i (end_of (moved c i m (λ s'. scan c step fin s' l (after x i))))
      go (go_on s') h = on (h s')
      go (stay a) h = here
      go halt h = here

  scan-mild : (s : S) (l : List ℕ) (i : TextLocation) → Placed (scan c step fin s l i)
  scan-mild s [] i = go (fin s)
    where
      go : (o : Option A) → Placed (judge c o i)
      go none = tt
      go (some a) = tt
  scan-mild s (x ∷ l) i = go (step s x) (λ s'. scan-mild s' l (after x i))
    where
      go : (m : Move S A) → ((s' : S) → Placed (scan c step fin s' l (after x i))) → Placed (moved c i m (λ s'. scan c step fin s' l (after x i)))
      go (go_on s') h = h s'
      go (stay a) h = tt
      go halt h = tt

  scan-like : (s : S) (l m : List ℕ) (i : TextLocation) → ((j : ℕ) → byte_of i + j ≤ end_byte (scan c step fin s l i) → get_elem? l j ≡ get_elem? m j) → scan c step fin s m i ≡ scan c step fin s l i
  unfolding after
  scan-like s [] m i h = go m (alike [] m (h 0 (omega (arith, walk-ahead (scan-goes s [] i)))))
    where
      go : (m : List ℕ) → Alike [] m → scan c step fin s m i ≡ scan c step fin s [] i
      go m nils = refl
  scan-like s (x ∷ l) [] i h = let z : ◌≡◌ {A = ℕ} 0 1 = cc (h 0 (omega (arith, walk-ahead (scan-goes s (x ∷ l) i)))) in absurd (omega arith)
  scan-like s (x ∷ l) (y ∷ m) i h =
      let q : y ≡ x = cc (h 0 (omega (arith, walk-ahead (scan-goes s (x ∷ l) i)))) in
      rw q (go (step s x) (λ s'. scan-like s' l m (after x i)) (λ j b. h (suc j) b))
    where
      go : (v : Move S A)
          → ((s' : S) → ((j : ℕ) → byte_of (after x i) + j ≤ end_byte (scan c step fin s' l (after x i)) → get_elem? l j ≡ get_elem? m j) → scan c step fin s' m (after x i) ≡ scan c step fin s' l (after x i))
          → ((j : ℕ) → byte_of i + suc j ≤ end_byte (moved c i v (λ s'. scan c step fin s' l (after x i))) → get_elem? l j ≡ get_elem? m j)
          → moved c i v (λ s'. scan c step fin s' m (after x i)) ≡ moved c i v (λ s'. scan c step fin s' l (after x i))
      go (go_on s') f k = f s' (λ j b. k j (omega arith))
      go (stay a) f k = refl
      go halt f k = refl

  pub run-local : (s : S) → Local (run c step fin s)
  unfolding run
  run-local s = at_local (record { goes = scan-goes s; like = scan-like s })

  pub run-mild : (s : S) → Mild (run c step fin s)
  unfolding run
  run-mild s = record { mild = λ t i. scan-mild s (rest t i) i }

module _ {A : Type 0} (c x : ℕ) {p : Reader A} (y : ℕ) {q : Reader A} where
  fork-reach : Local p → Local q → (t : List ℕ) (i : TextLocation) → Reach t i (end_of (fork c x p y q t i))
  unfolding fork
  fork-reach lp lq t i = go (rest t i) refl
    where
      go2 : (b : ℕ) (l : List ℕ) → rest t i ≡ b ∷ l → (d z : Bool) → Walk (rest t i) i (end_of (choose c (after b i) p q d z t i))
      go2 b l e true z = lp.reach t i
      go2 b l e false true = lq.reach t i
      go2 b l e false false = rw e (on here)

      go : (l : List ℕ) → rest t i ≡ l → Walk (rest t i) i (end_of (fork_of c x p y q l t i))
      go [] e = here
      go (b ∷ l) e = go2 b l e (b == x) (b == y)

  pub fork-local : Local p → Local q → Local (fork c x p y q)
  unfolding fork
  fork-local lp lq = record {
    reach = fork-reach lp lq;
    near = λ t u i h. go t u i (alike (rest t i) (rest u i) (rest-agree t u i 0 (h (byte_of i + 0) (omega (arith, walk-ahead (fork-reach lp lq t i)))))) h;
  }
    where
      go2 : (t u : List ℕ) (i n : TextLocation) (d z : Bool) → Same t u (suc (end_byte (choose c n p q d z t i))) → choose c n p q d z u i ≡ choose c n p q d z t i
      go2 t u i n true z h = lp.near t u i h
      go2 t u i n false true h = lq.near t u i h
      go2 t u i n false false h = refl

      go : (t u : List ℕ) (i : TextLocation) {l m : List ℕ} → Alike l m → Same t u (suc (end_byte (fork_of c x p y q l t i))) → fork_of c x p y q m u i ≡ fork_of c x p y q l t i
      go t u i nils h = refl
      go t u i (heads {b}) h = go2 t u i (after b i) (b == x) (b == y) h

  pub fork-mild : Mild p → Mild q → Mild (fork c x p y q)
  unfolding fork
  fork-mild mp mq = record { mild = λ t i. go t i (rest t i) }
    where
      go2 : (t : List ℕ) (i n : TextLocation) (d z : Bool) → Placed (choose c n p q d z t i)
      go2 t i n true z = mp.mild t i
      go2 t i n false true = mq.mild t i
      go2 t i n false false = tt

      go : (t : List ℕ) (i : TextLocation) (l : List ℕ) → Placed (fork_of c x p y q l t i)
      go t i [] = tt
      go t i (b ∷ l) = go2 t i (after b i) (b == x) (b == y)

  pub fork-grows : Grows p → Grows q → Grows (fork c x p y q)
  unfolding fork
  fork-grows gp gq = record { grows = λ t i. go t i (rest t i) }
    where
      go2 : (t : List ℕ) (i n : TextLocation) (d z : Bool) → Settled (choose c n p q d z t i) → byte_of i < end_byte (choose c n p q d z t i)
      go2 t i n true z w = gp.grows t i w
      go2 t i n false true w = gq.grows t i w
      go2 t i n false false w = absurd w

      go : (t : List ℕ) (i : TextLocation) (l : List ℕ) → Settled (fork_of c x p y q l t i) → byte_of i < end_byte (fork_of c x p y q l t i)
      go t i [] w = absurd w
      go t i (b ∷ l) w = go2 t i (after b i) (b == x) (b == y) w

  pub fork-firm : Grows p → Grows q → Firm p → Firm q → Firm (fork c x p y q)
  unfolding fork
  fork-firm gp gq fp fq = record { firm = λ t u i w h. go t u i (alike (rest t i) (rest u i) (rest-agree t u i 0 (h (byte_of i + 0) (omega (arith, (fork-grows gp gq).grows t i w))))) w h }
    where
      go2 : (t u : List ℕ) (i n : TextLocation) (d z : Bool) → Settled (choose c n p q d z t i) → Same t u (end_byte (choose c n p q d z t i)) → choose c n p q d z u i ≡ choose c n p q d z t i
      go2 t u i n true z w h = fp.firm t u i w h
      go2 t u i n false true w h = fq.firm t u i w h
      go2 t u i n false false w h = absurd w

      go : (t u : List ℕ) (i : TextLocation) {l m : List ℕ} → Alike l m → Settled (fork_of c x p y q l t i) → Same t u (end_byte (fork_of c x p y q l t i))
          → fork_of c x p y q m u i ≡ fork_of c x p y q l t i
      go t u i nils w h = refl
      go t u i (heads {b}) w h = go2 t u i (after b i) (b == x) (b == y) w h

pub eot-local : (c : ℕ) → Local (eot c)
unfolding eot
eot-local c = at_local (record { goes = up; like = λ l m i h. same i (alike l m (h 0 (omega (arith, walk-ahead (up l i))))) })
  where
    up : (l : List ℕ) (i : TextLocation) → Walk l i (end_of (end_if c l i))
    up [] i = here
    up (b ∷ l) i = on here

    same : {l m : List ℕ} (i : TextLocation) → Alike l m → end_if c m i ≡ end_if c l i
    same i nils = refl
    same i heads = refl
