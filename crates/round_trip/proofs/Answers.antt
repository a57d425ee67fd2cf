-- What the writer answers, and what it leaves in the output, by what is lent.
use Rattle.std.proofs.Math.Path.{◌≡◌, refl}
use Rattle.std.proofs.Common.{sym, ◌∙◌, inl, inr, arith}
use Rattle.std.specs.Prelude.{◌⊎◌, ℕ, zero, suc, ◌*◌, ◌≤◌, ◌<◌, Bool, List, [], ◌∷◌, ◌++◌, length, drop, ℤ, eqb, leb}
use Rattle.std.proofs.Math.Bool.{true, false}
use Rattle.std.proofs.lemmas.Bool.{false≢true}
use Rattle.std.proofs.Math.Option.{Option, some}
use Rattle.std.proofs.Math.ListN.{get_elem?}
use borrow.Author.Tests.{eqb-true, eqb-false, eq-eqb, ne_eqb, leb-false, le-leb, lt-leb}
use Rattle.text.specs.Place.{pick}
use Rattle.text.specs.Outcome.{accepted, unplaced}
use Rattle.mask.specs.Fault.{is_cell, all_cells, fault}
use Rattle.writer.specs.Written.{written}
use Rattle.writer.specs.Writing.{breaks, unbroken, name_limit, good_name, wrong, writing}
use Rattle.round_trip.specs.Terms.{BadName, BadCell, Taken}

-- ---- names

-- a byte that no name may hold
abbrev Breaking : ℕ → Type 0
Breaking b = (b ≡ 32) ⊎ ((b ≡ 9) ⊎ (b ≡ 10))

breaking : (b : ℕ) → breaks b ≡ true → Breaking b
breaking b q = go (eqb b 32) (eqb b 9) refl refl q
  where
    go : (s t : Bool) → eqb b 32 ≡ s → eqb b 9 ≡ t → pick s true (pick t true (eqb b 10)) ≡ true → Breaking b
    go true t e f q = inl (eqb-true b 32 e)
    go false true e f q = inr (inl (eqb-true b 9 f))
    go false false e f q = inr (inr (eqb-true b 10 q))

breaks-so : (b : ℕ) → Breaking b → breaks b ≡ true
breaks-so b (inl e) = rw e
breaks-so b (inr (inl e)) = rw e
breaks-so b (inr (inr e)) = rw e

abbrev Broken : List ℕ → Type 0
Broken name = (i : ℕ) × (b : ℕ) × (get_elem? name i ≡ some b) × Breaking b

broken : (name : List ℕ) → unbroken name ≡ false → Broken name
broken [] q = absurd (false≢true (sym q))
broken (b ∷ name) q = go (breaks b) refl (broken name) q
  where
    later : Broken name → Broken (b ∷ name)
    later (i, x, e, k) = (suc i, x, e, k)

    go : (t : Bool) → breaks b ≡ t → (unbroken name ≡ false → Broken name) → pick t false (unbroken name) ≡ false → Broken (b ∷ name)
    go true e f q = (0, b, refl, breaking b e)
    go false e f q = later (f q)

unbroken-not : (name : List ℕ) (i b : ℕ) → get_elem? name i ≡ some b → Breaking b → unbroken name ≡ false
unbroken-not [] i b e k = let z : ◌≡◌ {A = ℕ} 0 1 = cc in absurd (omega arith)
unbroken-not (x ∷ name) zero b e k = let z : x ≡ b = cc in rw (z, breaks-so b k)
unbroken-not (x ∷ name) (suc i) b e k = go (breaks x) (unbroken-not name i b e k)
  where
    go : (t : Bool) → unbroken name ≡ false → pick t false (unbroken name) ≡ false
    go true q = refl
    go false q = q

bad-name : (name : List ℕ) → good_name name ≡ false → BadName name
bad-name name q = go (leb (length name) name_limit) refl q
  where
    go : (t : Bool) → leb (length name) name_limit ≡ t → pick t (unbroken name) false ≡ false → BadName name
    go true e q = inr (broken name q)
    go false e q = inl (leb-false (length name) name_limit e)

good-not : (name : List ℕ) → BadName name → good_name name ≡ false
good-not name (inl l) = rw (lt-leb (length name) name_limit l)
good-not name (inr (i, b, e, k)) = rw (unbroken-not name i b e k) (go (leb (length name) name_limit))
  where
    go : (t : Bool) → pick t false false ≡ false
    go true = refl
    go false = refl

good : (name : List ℕ) → (BadName name → ⊥) → good_name name ≡ true
good name n = go (good_name name) refl
  where
    go : (t : Bool) → good_name name ≡ t → good_name name ≡ true
    go true e = e
    go false e = absurd (n (bad-name name e))

-- ---- cells

bad-cell : (cells : List ℕ) → all_cells cells ≡ false → BadCell cells
bad-cell [] q = absurd (false≢true (sym q))
bad-cell (x ∷ cells) q = go (eqb x 0) (eqb x 255) refl refl (bad-cell cells) q
  where
    later : BadCell cells → BadCell (x ∷ cells)
    later (c, y, e, k, l) = (suc c, y, e, k, l)

    go : (s t : Bool) → eqb x 0 ≡ s → eqb x 255 ≡ t → (all_cells cells ≡ false → BadCell cells) → pick (pick s true t) (all_cells cells) false ≡ false → BadCell (x ∷ cells)
    go true t e f g q = later (g q)
    go false true e f g q = later (g q)
    go false false e f g q = (0, x, refl, eqb-false x 0 e, eqb-false x 255 f)

cells-not : (cells : List ℕ) → BadCell cells → all_cells cells ≡ false
cells-not [] (c, x, e, k, l) = let z : ◌≡◌ {A = ℕ} 0 1 = cc in absurd (omega arith)
cells-not (y ∷ cells) (zero, x, e, k, l) = let z : y ≡ x = cc in rw (z, ne_eqb x 0 k, ne_eqb x 255 l)
cells-not (y ∷ cells) (suc c, x, e, k, l) = go (is_cell y) (cells-not cells (c, x, e, k, l))
  where
    go : (t : Bool) → all_cells cells ≡ false → pick t (all_cells cells) false ≡ false
    go true q = q
    go false q = refl

all-good : (cells : List ℕ) → (BadCell cells → ⊥) → all_cells cells ≡ true
all-good cells n = go (all_cells cells) refl
  where
    go : (t : Bool) → all_cells cells ≡ t → all_cells cells ≡ true
    go true e = e
    go false e = absurd (n (bad-cell cells e))

-- ---- the answers

some-positive : (n : ℕ) → (n ≡ 0 → ⊥) → 0 < n
some-positive zero f = absurd (f refl)
some-positive (suc n) f = omega arith

not-zero : (n : ℕ) → 0 < n → n ≡ 0 → ⊥
not-zero n l e = omega arith

module _ (name : List ℕ) (w h : ℕ) (cells : List ℕ) where
  pub wrong_name : BadName name → wrong name w h cells ≡ 51
  unfolding wrong
  wrong_name b = rw (good-not name b)

  module _ (g : BadName name → ⊥) where
    pub wrong-side : (w ≡ 0) ⊎ (h ≡ 0) → wrong name w h cells ≡ 52
    unfolding wrong fault
    wrong-side (inl e) = rw (good name g, eq-eqb w 0 e)
    wrong-side (inr e) = rw (good name g, eq-eqb h 0 e) (go (eqb w 0))
      where
        go : (t : Bool) → ◌≡◌ {A = ℕ} (pick t 52 52) 52
        go true = refl
        go false = refl

    module _ (a : 0 < w) (b : 0 < h) where
      pub wrong_size : (length cells ≡ w * h → ⊥) → wrong name w h cells ≡ 53
      unfolding wrong fault
      wrong_size n = rw (good name g, ne_eqb w 0 (not-zero w a), ne_eqb h 0 (not-zero h b), ne_eqb (length cells) (w * h) n)

      pub wrong-cell : length cells ≡ w * h → BadCell cells → wrong name w h cells ≡ 54
      unfolding wrong fault
      wrong-cell e c = rw (good name g, ne_eqb w 0 (not-zero w a), ne_eqb h 0 (not-zero h b), eq-eqb (length cells) (w * h) e, cells-not cells c)

  pub wrong-not : Taken name w h cells → wrong name w h cells ≡ 0
  unfolding wrong fault
  wrong-not t =
      rw (good name t.name-good, ne_eqb w 0 (not-zero w t.wide), ne_eqb h 0 (not-zero h t.high), eq-eqb (length cells) (w * h) t.size, all-good cells t.cells-good)

  -- one of the five holds
  pub cases : BadName name ⊎ (((BadName name → ⊥) × ((w ≡ 0) ⊎ (h ≡ 0))) ⊎ (((BadName name → ⊥) × (0 < w) × (0 < h) × (length cells ≡ w * h → ⊥))
      ⊎ (((BadName name → ⊥) × (0 < w) × (0 < h) × (length cells ≡ w * h) × BadCell cells) ⊎ Taken name w h cells)))
  cases = go (good_name name) (eqb w 0) (eqb h 0) (eqb (length cells) (w * h)) (all_cells cells) refl refl refl refl refl
    where
      fine : good_name name ≡ true → BadName name → ⊥
      fine e b = false≢true (sym (good-not name b) ∙ e)

      go : (p q r s t : Bool) → good_name name ≡ p → eqb w 0 ≡ q → eqb h 0 ≡ r → eqb (length cells) (w * h) ≡ s → all_cells cells ≡ t
          → BadName name ⊎ (((BadName name → ⊥) × ((w ≡ 0) ⊎ (h ≡ 0))) ⊎ (((BadName name → ⊥) × (0 < w) × (0 < h) × (length cells ≡ w * h → ⊥))
          ⊎ (((BadName name → ⊥) × (0 < w) × (0 < h) × (length cells ≡ w * h) × BadCell cells) ⊎ Taken name w h cells)))
      go false q r s t e1 e2 e3 e4 e5 = inl (bad-name name e1)
      go true true r s t e1 e2 e3 e4 e5 = inr (inl (fine e1, inl (eqb-true w 0 e2)))
      go true false true s t e1 e2 e3 e4 e5 = inr (inl (fine e1, inr (eqb-true h 0 e3)))
      go true false false false t e1 e2 e3 e4 e5 =
          inr (inr (inl (fine e1, some-positive w (eqb-false w 0 e2), some-positive h (eqb-false h 0 e3), eqb-false (length cells) (w * h) e4)))
      go true false false true false e1 e2 e3 e4 e5 =
          inr (inr (inr (inl (fine e1, some-positive w (eqb-false w 0 e2), some-positive h (eqb-false h 0 e3), eqb-true (length cells) (w * h) e4, bad-cell cells e5))))
      go true false false true true e1 e2 e3 e4 e5 =
          inr (inr (inr (inr (record {
            name-good = fine e1;
            wide = some-positive w (eqb-false w 0 e2);
            high = some-positive h (eqb-false h 0 e3);
            size = eqb-true (length cells) (w * h) e4;
            cells-good = λ b. false≢true (sym (cells-not cells b) ∙ e5);
          }))))

module _ (name : List ℕ) (w h : ℕ) (hot : Option (ℤ × ℤ)) (cells out : List ℕ) where
  pub refused-so : (c : ℕ) → wrong name w h cells ≡ suc c → ((writing name w h hot cells out).answer ≡ unplaced (suc c)) × ((writing name w h hot cells out).bytes ≡ out)
  unfolding writing
  refused-so c e = rw (e, ne_eqb (suc c) 0 (λ z. omega arith)) (refl, refl)

  module _ (t : Taken name w h cells) where
    pub no_room : length out < length (written name w h hot cells) → ((writing name w h hot cells out).answer ≡ unplaced 55) × ((writing name w h hot cells out).bytes ≡ out)
    unfolding writing
    no_room l = rw (wrong-not name w h cells t, lt-leb (length (written name w h hot cells)) (length out) l) (refl, refl)

    pub room : length (written name w h hot cells) ≤ length out → ((writing name w h hot cells out).answer ≡ accepted (length (written name w h hot cells)))
        × ((writing name w h hot cells out).bytes ≡ written name w h hot cells ++ drop (length (written name w h hot cells)) out)
    unfolding writing
    room l = rw (wrong-not name w h cells t, le-leb (length (written name w h hot cells)) (length out) l) (refl, refl)
