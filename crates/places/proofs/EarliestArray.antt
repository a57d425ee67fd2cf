-- The earliest place of a refusal in the array line: 5.
use Rattle.std.specs.Prelude.{◌≡◌, ◌⊎◌, ℕ, Bool, true, false, List, [], ◌∷◌, length, eqb, ℤ}
use Rattle.std.proofs.Math.Path.{refl}
use Rattle.std.proofs.Common.{sym, ap, ◌∙◌, inl, inr, arith, ne_eqb}
use Rattle.std.proofs.Math.Option.{none, some}
use Rattle.text.specs.declared.TextLocation.{TextLocation}
use Rattle.text.specs.Place.{start, after, rest as rest_at}
use Rattle.text.specs.Reader.{ok, stop, ◌>>=◌}
use Rattle.text.specs.Leaf.{give, one, first as first_of, fork, fork_of, choose}
use Rattle.text.specs.Outcome.{refused}
use Rattle.lexical.specs.Lexical.{when, byte, fixed}
use Rattle.lines.specs.Lines.{array_line}
use Rattle.header.specs.Header.{Head, rest}
use Rattle.image.specs.Reading.{reading}
use Rattle.grammar.proofs.Bind.{bind_ok}
use Rattle.grammar.proofs.Headers.{array-fits}
use Rattle.grammar.specs.Lang.{Lang, Lit, ◌·◌, All}
use Rattle.grammar.specs.Grammar.{Mask, solid, Coordinate, Array}
use Rattle.grammar.proofs.Fits.{Any, At, Next}
use Rattle.claims.specs.Terms.{Begun}
use Rattle.claims.proofs.Numbers.{no_number, give-numbered}
use Rattle.refusals.specs.Terms.{Sides, Fourth, No}
use Rattle.refusals.proofs.Stages.{stop-first, read_at, begun}
use Rattle.refusals.proofs.HotspotRows.{Three, second, Both, second_fits, both-name, further, hot, plain, is-next, hashed, crossed-name, hash, mask_of}
use Rattle.refusals.proofs.ArrayRow.{Five, fourth, fourth-fits, fourth-hot, fourth-numbered, Spotted, done}
use Rattle.places.specs.Savable.{Savable}
use Rattle.places.proofs.SavingParts.{bind-any, array-open}
use Rattle.places.proofs.EarliestLift.{savable-same, at-line, at_stage}
use Rattle.places.proofs.EarliestRows.{sided}

-- no `#` after the sides: what is refused is refused by the array line, at the same place
plain-stop : (a : Three) (t : List ℕ) (m p : TextLocation) → (Next 35 (rest_at t m) → ⊥) → further a t m ≡ stop 5 p → array_line 5 a.0.0 t m ≡ stop 5 p
unfolding rest fork Next
plain-stop a t m p k q = go (rest_at t m) refl k q
  where
    from-plain : plain a t m ≡ stop 5 p → array_line 5 a.0.0 t m ≡ stop 5 p
    from-plain x = (stop-first (array_line 5 a.0.0) (λ b. give headed) 5 t m (λ b. give-numbered {lo = 1} {hi = 0} {bare = no_number} headed) (λ a b. omega arith) p).0 x
      where
        headed : Head
        headed = record { name = a.0.0; width = a.0.1; height = a.1; hot = none }

    at_once : (l : List ℕ) → rest_at t m ≡ l → first_of 5 (λ b. when (eqb b 115)) l m ≡ stop 5 p → array_line 5 a.0.0 t m ≡ stop 5 p
    at_once l r x = unfold array_line fixed byte one ◌>>=◌ in rw (r, x) refl

    two : (b : ℕ) (l : List ℕ) → rest_at t m ≡ b ∷ l → (d : Bool) → eqb b 115 ≡ d → choose 5 (after b m) (hot a) (plain a) false d t m ≡ stop 5 p → array_line 5 a.0.0 t m ≡ stop 5 p
    two b l r true e x = from-plain x
    two b l r false e x = let z : after b m ≡ p = cc in at_once (b ∷ l) r (rw e (ap (λ (n : TextLocation). stop 5 n) z))

    go : (l : List ℕ) → rest_at t m ≡ l → (Next 35 l → ⊥) → fork_of 5 35 (hot a) 115 (plain a) l t m ≡ stop 5 p → array_line 5 a.0.0 t m ≡ stop 5 p
    go [] r k x = let z : m ≡ p = cc in at_once [] r (ap (λ (n : TextLocation). stop 5 n) z)
    go (b ∷ l) r k x = two b l r (eqb b 115) refl (rw (ne_eqb b 35 k) at x)

-- what a fourth line's end says of the name
spotted-name : (limit : ℕ) (c : Five) (w : List ℕ) → Spotted limit c w → All solid c.0.0.0.0
spotted-name limit c w k = unfold ◌·◌ in (let (u, v, q, x, y) = k in crossed-name limit c.0 u x)

abbrev head_of5 : Five → Head
head_of5 c = record { name = c.0.0.0.0; width = c.0.0.0.1; height = c.0.0.1; hot = some (c.0.1, c.1) }

module _ (text name pixels : List ℕ) (p : TextLocation) where
  abbrev limit : ℕ
  limit = length name

  -- a text that begins so, and then with the array line
  bare : {B : Type 0} (K L : Lang) (b : B) → Savable text p (λ u. (b : B) × Unit {0} × Begun (K · L) u) → Savable text p (Begun (K · L))
  bare K L b = savable-same text p (λ u. ((λ (b, x, y). y), λ y. (b, tt, y)))

  abbrev Saved5 : Type 0
  Saved5 = ((m : Mask) × Begun (Sides limit m) text × No (Sides limit m · Lit "#") text × Savable text p (Begun (Sides limit m · Array m.name)))
      ⊎ ((m : Mask) × (x : ℤ) × (y : ℤ) × Begun (Fourth limit m x (Coordinate y)) text × Savable text p (Begun (Fourth limit m x (Coordinate y) · Array m.name)))

  without : (a : Three) (m : TextLocation) → second limit text start ≡ ok a m → (Next 35 (rest_at text m) → ⊥) → array_line 5 a.0.0 text m ≡ stop 5 p → Saved5
  without a m u n x =
      let k : At (Both limit a) Any text start m = ((read_at (second_fits limit a) text start m).0 u).1 in
      let s = at-line (second limit) (λ a. array_line 5 a.0.0) (λ a b. give b) (Both limit) (λ a. All solid a.0.0) (λ b. Unit {0}) (λ a b. Array a.0.0) (second_fits limit) (both-name limit) (λ a s b. array-fits a.0.0 s) (λ a s. bind-any (array-open 5 a.0.0 s)) text 5 p a m u x in
      inl (mask_of a, (begun (Both limit a) text).0 (m, k), (λ b. n ((hash text name pixels a m k).1 b)), bare (Both limit a) (Array a.0.0) tt s)

  with-spot : (fourth limit >>= done) text start ≡ stop 5 p → Saved5
  with-spot q =
      let (c, k, s) = at_stage (fourth limit) (λ c. array_line 5 c.0.0.0.0) (λ c b. give (head_of5 c)) (Spotted limit) (λ c. All solid c.0.0.0.0) (λ b. Unit {0}) (λ c b. Array c.0.0.0.0) (fourth-fits limit) (spotted-name limit) (λ c s b. array-fits c.0.0.0.0 s) (λ c s. bind-any (array-open 5 c.0.0.0.0 s)) 5 (fourth-numbered limit) (λ a b. omega arith) (λ c b. give-numbered {lo = 1} {hi = 0} {bare = no_number} (head_of5 c)) (λ a b. omega arith) text p q in
      inr (mask_of c.0.0, c.0.1, c.1, k, bare (Spotted limit c) (Array c.0.0.0.0) tt s)

  -- an array line can still stand there, after the sides or after the hotspot's lines
  pub earliest-5 : (reading text name pixels).answer ≡ refused 5 p → Saved5
  earliest-5 q = let (a, m, u, v) = sided text name pixels p 5 (omega arith) (omega arith) q in go a m u v (is-next 35 (rest_at text m))
    where
      go : (a : Three) (m : TextLocation) → second limit text start ≡ ok a m → further a text m ≡ stop 5 p → Dec (Next 35 (rest_at text m)) → Saved5
      go a m u v (yes k) = with-spot (rw (fourth-hot limit) at (bind_ok (second limit) hot text start a m u ∙ sym (hashed a text m k) ∙ v))
      go a m u v (no k) = without a m u k (plain-stop a text m p k v)
