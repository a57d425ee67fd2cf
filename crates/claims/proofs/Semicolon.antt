-- The last semicolon of a written text, and its cuts after it: by the grammar alone.
use Rattle.std.specs.Prelude.{◌≡◌, refl, ℕ, zero, suc, ◌+◌, ◌-◌, ◌≤◌, ◌<◌, Bool, true, false, List, [], ◌∷◌, ◌++◌, length, take}
use Rattle.std.proofs.Common.{sym, ap, ◌∙◌, arith, append_assoc, length-append}
use Rattle.std.proofs.Math.Option.{some}
use Rattle.std.proofs.lemmas.Bool.{false≢true}
use Rattle.std.proofs.Math.ListN.{get_elem?}
use Rattle.std.proofs.Math.Seq.{take-append-add}
use Rattle.grammar.specs.Lang.{Word, ◌·◌, All, Many}
use Rattle.grammar.specs.Grammar.{space, Loose, Data, Closing, Mask, Header, Format}
use Rattle.grammar.proofs.Exact.{Whole}
use Rattle.claims.specs.Terms.{Last}

pub record Closed (lim : ℕ) (t : List ℕ) (m : Mask) : Type 0 where
  pub fore : List ℕ
  pub tail : List ℕ
  pub split : t ≡ (fore ++ 59 ∷ []) ++ tail
  pub word : (Header lim m · Data m.bytes · Closing) (fore ++ 59 ∷ [])
  pub loose : All space tail
  pub whole : Whole m

pub closed : (lim : ℕ) (t : List ℕ) (m : Mask) → Format lim m t → Closed lim t m
unfolding Format Closing Loose ◌·◌ Word Many
closed lim t m ((h, r, q, kh, (x, l, q2, (d, c, q3, kd, (c1, c2, q4, k4, (c3, c4, q5, k5, (c5, c6, q6, k6, k7)))), kl)), s) =
    let e : c ≡ c1 ++ (c3 ++ (c5 ++ 59 ∷ [])) = rw (q4, q5, q6, k7) refl in
    let a : (h ++ (d ++ (c1 ++ (c3 ++ c5)))) ++ 59 ∷ [] ≡ h ++ (d ++ c) = rw e (simp append_assoc) in record {
      fore = h ++ (d ++ (c1 ++ (c3 ++ c5)));
      tail = l;
      split = q ∙ rw (a, q2, q3) (sym (append_assoc h (d ++ c) l));
      word = (h, d ++ c, a, kh, (d, c, refl, kd, (c1, c2, q4, k4, (c3, c4, q5, k5, (c5, c6, q6, k6, k7)))));
      loose = kl;
      whole = s;
    }

pub closes : (lim : ℕ) (m : Mask) (u l : List ℕ) → (Header lim m · Data m.bytes · Closing) u → All space l → Whole m → Format lim m (u ++ l)
unfolding Format Loose ◌·◌ Many
closes lim m u l (h, y, q, kh, k) a s = ((h, y ++ l, ap (λ (x : List ℕ). x ++ l) q ∙ append_assoc h y l, kh, (y, l, refl, k, a)), s)

all_take : (g : ℕ → Bool) (k : ℕ) (l : List ℕ) → All g l → All g (take k l)
all_take g zero l a = tt
all_take g (suc k) [] a = tt
all_take g (suc k) (x ∷ l) a = (a.0, all_take g k l a.1)

all-at : (g : ℕ → Bool) (l : List ℕ) (k b : ℕ) → All g l → get_elem? l k ≡ some b → g b ≡ true
all-at g [] k b a q = let z : ◌≡◌ {A = ℕ} 0 1 = cc in absurd (omega arith)
all-at g (x ∷ l) zero b a q = let z : x ≡ b = cc in rw z at a.0
all-at g (x ∷ l) (suc k) b a q = all-at g l k b a.1 q

seam : (p : List ℕ) (x : ℕ) (l : List ℕ) → get_elem? ((p ++ x ∷ []) ++ l) (length p) ≡ some x
seam [] x l = refl
seam (y ∷ p) x l = seam p x l

beyond : (p : List ℕ) (x : ℕ) (l : List ℕ) (j b : ℕ) → length p < j → get_elem? ((p ++ x ∷ []) ++ l) j ≡ some b → (k : ℕ) × (get_elem? l k ≡ some b)
beyond [] x l zero b h q = absurd (omega arith)
beyond [] x l (suc j) b h q = (j, q)
beyond (y ∷ p) x l zero b h q = absurd (omega arith)
beyond (y ∷ p) x l (suc j) b h q = beyond p x l j b (omega arith) q

module _ (lim : ℕ) (t : List ℕ) (m : Mask) (p : Closed lim t m) where
  pub last : Last 59 t (length p.fore)
  last = (ap (λ (x : List ℕ). get_elem? x (length p.fore)) p.split ∙ seam p.fore 59 p.tail, λ j h q. no_more j h (sym (ap (λ (x : List ℕ). get_elem? x j) p.split) ∙ q))
    where
      no_more : (j : ℕ) → length p.fore < j → get_elem? ((p.fore ++ 59 ∷ []) ++ p.tail) j ≡ some 59 → ⊥
      no_more j h q = let (k, u) = beyond p.fore 59 p.tail j 59 h q in let z : ◌≡◌ {A = Bool} false true = all-at space p.tail k 59 p.loose u in false≢true z

  pub long : suc (length p.fore) ≤ length t
  long = omega (arith, ap length p.split, length-append (p.fore ++ 59 ∷ []) p.tail, length-append p.fore (59 ∷ []))

  -- a cut with the semicolon in it writes the same mask
  pub writes : (n : ℕ) → length p.fore < n → Format lim m (take n t)
  writes n h =
      let k : n ≡ length (p.fore ++ 59 ∷ []) + (n - suc (length p.fore)) = omega (arith, length-append p.fore (59 ∷ [])) in
      let e : take n t ≡ (p.fore ++ 59 ∷ []) ++ take (n - suc (length p.fore)) p.tail = ap (λ (x : ℕ). take x t) k ∙ ap (take (length (p.fore ++ 59 ∷ []) + (n - suc (length p.fore)))) p.split ∙ take-append-add (p.fore ++ 59 ∷ []) p.tail (n - suc (length p.fore)) in
      rw e (closes lim m (p.fore ++ 59 ∷ []) (take (n - suc (length p.fore)) p.tail) p.word (all_take space (n - suc (length p.fore)) p.tail p.loose) p.whole)
