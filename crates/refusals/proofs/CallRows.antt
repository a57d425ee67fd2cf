-- A call for the next data byte on a decoder that is not foreign, by what stands in the text from its place on.
use Rattle.std.proofs.Math.Path.{◌≡◌, sym, ap}
use Rattle.std.specs.Prelude.{refl, ◌↔◌, ◌⊎◌, ℕ, zero, suc, ◌+◌, ◌-◌, ◌≤◌, ◌<◌, Bool, true, false, length, take, drop, eqb}
use Rattle.std.proofs.Common.{◌∙◌, inl, inr, arith, take-append-drop, length-drop, length-take-le, ne_eqb}
use Rattle.std.proofs.Math.Decide.{dec_lt}
use Rattle.std.proofs.Math.Option.{Option, none, some}
use Rattle.std.proofs.lemmas.Bool.{false≢true}
use mathlib.Core.List.{List, [], ◌++◌, append-nil}
use Rattle.text.specs.declared.TextLocation.{TextLocation}
use Rattle.text.specs.Place.{byte_of, rest, past}
use Rattle.text.proofs.PlaceLaws.{sound-rest}
use Rattle.text.specs.Rest.{Reach}
use Rattle.text.proofs.Rest.{reach-inside, walk-ahead, walk-unique}
use Rattle.text.specs.Reader.{Result, ok, stop, bad, Reader}
use Rattle.text.specs.Outcome.{Outcome, accepted, refused, outcome}
use Rattle.body.specs.Data.{item, trailer, closing, tail}
use Rattle.body.proofs.Data.{item-local, trailer-local}
use Rattle.decoder.specs.declared.XbmStreamDecoder.{XbmStreamDecoder}
use Rattle.decoder.specs.Step.{foreign, step_of}
use Rattle.grammar.specs.Lang.{Lang, ◌·◌}
use Rattle.grammar.proofs.Bind.{bind_ok, past-byte}
use Rattle.grammar.specs.Grammar.{Loose, Closing}
use Rattle.grammar.proofs.Fits.{Any, End, Fits, fit_then}
use Rattle.grammar.proofs.Exact.{first_fits, next_fits, closing-fits, tail-fits}
use Rattle.claims.specs.Terms.{Begun, Aligned}
use Rattle.claims.proofs.Cuts.{walk-past}
use Rattle.claims.proofs.Numbers.{no_number, Numbered, item-numbered, closing-numbered, tail-numbered, trailer-numbered, placed-number}
use Rattle.claims.proofs.Steps.{Native, not-foreign, next-answer, next-decoder, last-answer}
use Rattle.refusals.specs.Terms.{Placed, No, Foreign, size_of, ahead, moved, Item}
use Rattle.refusals.proofs.Stages.{alone, stop-first, stop-second}
use Rattle.refusals.proofs.Calls.{foreign-exactly, of-here, still-native, last-decoder, none-given}

item-fits : (k b : ℕ) → Fits (item (eqb k 0)) b (Unit {0}) (Item k b) Any
item-fits zero b = first_fits b
item-fits (suc k) b = rw (ne_eqb (suc k) 0 (λ q. omega arith)) (next_fits b)

trailer-fits : Fits trailer tt (Unit {0}) (Closing · Loose) End
unfolding trailer
trailer-fits = fit_then closing-fits (λ a. tail-fits)

module _ (t : List ℕ) (d : XbmStreamDecoder) (h : Foreign t d → ⊥) where
  sound : Native t d
  sound = of-here t d (go (foreign t d) refl)
    where
      go : (f : Bool) → foreign t d ≡ f → foreign t d ≡ false
      go true q = absurd (h ((foreign-exactly t d).0 q))
      go false q = q

  -- what remains there
  left : rest t d.location ≡ ahead t d
  left = sound-rest t d.location sound.place

  abbrev here : TextLocation
  here = d.location

  abbrev k : ℕ
  k = d.current_position

  -- a word that stands there
  stands : {A : Type 0} {p : Reader A} {a : A} {L : Lang} → Fits p a (Unit {0}) L Any → ((e : TextLocation) × (p t here ≡ ok a e)) ↔ Begun L (ahead t d)
  unfolding Any
  stands f = (
    (λ (e, q). (let (x, (w, r, c, l, y, o)) = f.to t here e q in (w, r, sym left ∙ c, l))),
    λ (w, r, c, l). (past here w, f.from t here w r tt (left ∙ c) l tt),
  )

  -- ---- a data byte is left

  next : d.current_position < size_of d → (step_of t d).answer ≡ outcome (λ b. some b) (item (eqb k 0) t here)
  next l = next-answer t d sound l

  last : d.current_position ≡ size_of d → (step_of t d).answer ≡ outcome (λ u. none) (trailer t here)
  last l = last-answer t d sound l

  -- one is left, or none
  left-or-not : (d.current_position < size_of d) ⊎ (d.current_position ≡ size_of d)
  left-or-not = go (dec_lt k (size_of d))
    where
      go : Dec (k < size_of d) → (k < size_of d) ⊎ (k ≡ size_of d)
      go (yes l) = inl l
      go (no l) = inr (omega (arith, sound.position))

  -- what is told of a data byte, and of a trailer
  byte-given : (r : Result ℕ) (b : ℕ) → (outcome (λ b. some b) r ≡ accepted (some b)) ↔ ((e : TextLocation) × (r ≡ ok b e))
  byte-given (ok a e) b = ((λ q. (e, (let z : a ≡ b = cc in ap (λ (x : ℕ). ok x e) z))), λ (m, q). (let z : a ≡ b = cc in ap (λ (x : ℕ). accepted (some x)) z))
  byte-given (stop c e) b = ((λ q. (let z : ◌≡◌ {A = ℕ} 0 1 = cc in absurd (omega arith))), λ (m, q). (let z : ◌≡◌ {A = ℕ} 0 1 = cc in absurd (omega arith)))
  byte-given (bad c e) b = ((λ q. (let z : ◌≡◌ {A = ℕ} 0 1 = cc in absurd (omega arith))), λ (m, q). (let z : ◌≡◌ {A = ℕ} 0 1 = cc in absurd (omega arith)))

  stopped : {A : Type 0} (g : A → Option ℕ) (r : Result A) (c : ℕ) (p : TextLocation) → (outcome g r ≡ refused c p) ↔ (r ≡ stop c p)
  stopped g (ok a e) c p = ((λ q. (let z : ◌≡◌ {A = ℕ} 0 1 = cc in absurd (omega arith))), λ q. (let z : ◌≡◌ {A = ℕ} 0 1 = cc in absurd (omega arith)))
  stopped g (stop x e) c p = ((λ q. cc), λ q. cc)
  stopped g (bad x e) c p = ((λ q. (let z : ◌≡◌ {A = ℕ} 0 1 = cc in absurd (omega arith))), λ q. (let z : ◌≡◌ {A = ℕ} 0 1 = cc in absurd (omega arith)))

  no_byte : (r : Result (Unit {0})) (b : ℕ) → outcome (λ u. none) r ≡ accepted (some b) → ⊥
  no_byte (ok a e) b q = let z : ◌≡◌ {A = ℕ} 0 1 = cc in omega arith
  no_byte (stop c e) b q = let z : ◌≡◌ {A = ℕ} 0 1 = cc in omega arith
  no_byte (bad c e) b q = let z : ◌≡◌ {A = ℕ} 0 1 = cc in omega arith

  ended_so : (r : Result (Unit {0})) → (◌≡◌ {A = Outcome (Option ℕ)} (outcome (λ u. none) r) (accepted none)) ↔ ((e : TextLocation) × (r ≡ ok tt e))
  ended_so (ok tt e) = ((λ q. (e, refl)), λ q. refl)
  ended_so (stop c e) = ((λ q. (let z : ◌≡◌ {A = ℕ} 0 1 = cc in absurd (omega arith))), λ (m, q). (let z : ◌≡◌ {A = ℕ} 0 1 = cc in absurd (omega arith)))
  ended_so (bad c e) = ((λ q. (let z : ◌≡◌ {A = ℕ} 0 1 = cc in absurd (omega arith))), λ (m, q). (let z : ◌≡◌ {A = ℕ} 0 1 = cc in absurd (omega arith)))

  pub gives : (b : ℕ) → ((step_of t d).answer ≡ accepted (some b)) ↔ ((k < size_of d) × Begun (Item k b) (ahead t d))
  gives b = (go left-or-not, λ (l, s). next l ∙ (byte-given (item (eqb k 0) t here) b).1 ((stands (item-fits k b)).1 s))
    where
      go : (k < size_of d) ⊎ (k ≡ size_of d) → (step_of t d).answer ≡ accepted (some b) → (k < size_of d) × Begun (Item k b) (ahead t d)
      go (inl l) q = (l, (stands (item-fits k b)).0 ((byte-given (item (eqb k 0) t here) b).0 (sym (next l) ∙ q)))
      go (inr l) q = absurd (no_byte (trailer t here) b (sym (last l) ∙ q))

  pub after-byte : (b : ℕ) (w v : List ℕ) → k < size_of d → ahead t d ≡ w ++ v → Item k b w → (step_of t d).decoder ≡ moved d (k + 1) (past here w)
  unfolding Any
  after-byte b w v l q i = next-decoder t d sound l b (past here w) ((item-fits k b).from t here w v tt (left ∙ q) i tt)

  pub row-6 : Placed (step_of t d).answer 6 ↔ ((k < size_of d) × ((b : ℕ) → No (Item k b) (ahead t d)))
  row-6 = ((λ (p, q). go left-or-not p q), λ (l, g). back l g)
    where
      only : Numbered 6 6 no_number (item (eqb k 0))
      only = item-numbered (eqb k 0) refl

      go : (k < size_of d) ⊎ (k ≡ size_of d) → (p : TextLocation) → (step_of t d).answer ≡ refused 6 p → (k < size_of d) × ((b : ℕ) → No (Item k b) (ahead t d))
      go (inl l) p q = (l, λ b s. (let (e, r) = (stands (item-fits k b)).1 s in (alone 6 t here only).0 (p, (stopped (λ b. some b) (item (eqb k 0) t here) 6 p).0 (sym (next l) ∙ q)) b e r))
      go (inr l) p q = absurd (omega (arith, placed-number (trailer-numbered {lo = 7} {hi = 8} {bare = no_number} refl refl) t here 6 p ((stopped (λ u. none) (trailer t here) 6 p).0 (sym (last l) ∙ q))))

      back : k < size_of d → ((b : ℕ) → No (Item k b) (ahead t d)) → Placed (step_of t d).answer 6
      back l g = let (p, q) = (alone 6 t here only).1 (λ b e r. g b ((stands (item-fits k b)).0 (e, r))) in (p, next l ∙ (stopped (λ b. some b) (item (eqb k 0) t here) 6 p).1 q)

  -- ---- none is left

  whole : ((e : TextLocation) × (trailer t here ≡ ok tt e)) ↔ (Closing · Loose) (ahead t d)
  unfolding End
  whole = (
    (λ (e, q). (let (x, (w, r, c, l, y, o)) = trailer-fits.to t here e q in rw (sym left ∙ c ∙ ap (λ (z : List ℕ). w ++ z) y ∙ append-nil w) l)),
    λ l. (past here (ahead t d), trailer-fits.from t here (ahead t d) [] tt (left ∙ sym (append-nil (ahead t d))) l refl),
  )

  pub done : ((step_of t d).answer ≡ accepted none) ↔ ((k ≡ size_of d) × (Closing · Loose) (ahead t d))
  done = (go left-or-not, λ (l, s). last l ∙ (ended_so (trailer t here)).1 (whole.1 s))
    where
      go : (k < size_of d) ⊎ (k ≡ size_of d) → (step_of t d).answer ≡ accepted none → (k ≡ size_of d) × (Closing · Loose) (ahead t d)
      go (inl l) q = absurd (none-given (item (eqb k 0) t here) (sym (next l) ∙ q))
      go (inr l) q = (l, whole.0 ((ended_so (trailer t here)).0 (sym (last l) ∙ q)))

  pub after-end : k ≡ size_of d → (Closing · Loose) (ahead t d) → (step_of t d).decoder ≡ moved d k (past here (ahead t d))
  unfolding End
  after-end l s = last-decoder t d sound l ∙ rw (trailer-fits.from t here (ahead t d) [] tt (left ∙ sym (append-nil (ahead t d))) s refl)

  closes : Numbered 7 7 no_number closing
  closes = closing-numbered refl

  follows : Numbered 8 8 no_number tail
  follows = tail-numbered refl

  -- the trailer is not a data byte's: 6 alone is
  not_byte : (c : ℕ) → 7 ≤ c → (p : TextLocation) → (step_of t d).answer ≡ refused c p → (k ≡ size_of d) × (trailer t here ≡ stop c p)
  not_byte c h p q = go left-or-not
    where
      go : (k < size_of d) ⊎ (k ≡ size_of d) → (k ≡ size_of d) × (trailer t here ≡ stop c p)
      go (inl l) = absurd (omega (arith, placed-number (item-numbered {lo = 6} {hi = 6} {bare = no_number} (eqb k 0) refl) t here c p ((stopped (λ b. some b) (item (eqb k 0) t here) c p).0 (sym (next l) ∙ q))))
      go (inr l) = (l, (stopped (λ u. none) (trailer t here) c p).0 (sym (last l) ∙ q))

  pub row-7 : Placed (step_of t d).answer 7 ↔ ((k ≡ size_of d) × No Closing (ahead t d))
  unfolding trailer
  row-7 = (
    (λ (p, q). (let (l, s) = not_byte 7 (omega arith) p q in (l, λ b. (let (e, r) = (stands closing-fits).1 b in (alone 7 t here closes).0 (p, (stop-first closing (λ a. tail) 7 t here (λ a. follows) (λ x y. omega arith) p).0 s) tt e r)))),
    λ (l, g). (let (p, q) = (alone 7 t here closes).1 (λ b e r. g ((stands closing-fits).0 (e, r))) in (p, last l ∙ (stopped (λ u. none) (trailer t here) 7 p).1 ((stop-first closing (λ a. tail) 7 t here (λ a. follows) (λ x y. omega arith) p).1 q))),
  )

  pub row-8 : Placed (step_of t d).answer 8 ↔ ((k ≡ size_of d) × Begun Closing (ahead t d) × ((Closing · Loose) (ahead t d) → ⊥))
  unfolding trailer
  row-8 = (
    (λ (p, q). (let (l, s) = not_byte 8 (omega arith) p q in let (a, m, r, x) = (stop-second closing (λ a. tail) 8 t here closes (λ x y. omega arith)).0 (p, s) in
        (l, (stands closing-fits).0 (m, r), λ w. (let (e, y) = whole.1 w in let z : ◌≡◌ {A = ℕ} 0 1 = cc in omega arith)))),
    λ (l, b, g). (let (m, r) = (stands closing-fits).1 b in
        let x : (q : TextLocation) × (tail t m ≡ stop 8 q) = (alone 8 t m follows).1 (λ a e y. g (whole.0 (e, bind_ok closing (λ a. tail) t here tt m r ∙ y))) in
        let (p, s) = (stop-second closing (λ a. tail) 8 t here closes (λ x y. omega arith)).1 (tt, m, r, x) in
        (p, last l ∙ (stopped (λ u. none) (trailer t here) 8 p).1 s)),
  )

  -- ---- where a refusal is told

  pub there : (c : ℕ) (p : TextLocation) → (step_of t d).answer ≡ refused c p → (byte_of here ≤ byte_of p) × (byte_of p ≤ length t) × (p ≡ past here (take (byte_of p - byte_of here) (ahead t d)))
  there c p q = go left-or-not
    where
      reached : Reach t here p → (byte_of here ≤ byte_of p) × (byte_of p ≤ length t) × (p ≡ past here (take (byte_of p - byte_of here) (ahead t d)))
      reached w =
          let within : byte_of p ≤ length t = reach-inside t here w sound.inside in
          let n : ℕ = byte_of p - byte_of here in
          let s : length (take n (ahead t d)) ≡ n = length-take-le n (ahead t d) (omega (arith, within, length-drop (byte_of here) t)) in
          (walk-ahead w, within, walk-unique (rw left at w) (rw (take-append-drop n (ahead t d)) at (walk-past (take n (ahead t d)) (drop n (ahead t d)) here)) (sym (past-byte here (take n (ahead t d)) ∙ omega (arith, walk-ahead w, s))))

      go : (k < size_of d) ⊎ (k ≡ size_of d) → (byte_of here ≤ byte_of p) × (byte_of p ≤ length t) × (p ≡ past here (take (byte_of p - byte_of here) (ahead t d)))
      go (inl l) = reached (rw ((stopped (λ b. some b) (item (eqb k 0) t here) c p).0 (sym (next l) ∙ q)) at ((item-local (eqb k 0)).reach t here))
      go (inr l) = reached (rw ((stopped (λ u. none) (trailer t here) c p).0 (sym (last l) ∙ q)) at (trailer-local.reach t here))

  -- ---- the later decoder

  pub never-foreign : Foreign t (step_of t d).decoder → ⊥
  never-foreign x = false≢true (sym (not-foreign t (step_of t d).decoder (still-native t d sound)) ∙ (foreign-exactly t (step_of t d).decoder).1 x)

  pub aligned : Aligned (step_of t d).decoder.location
  aligned = (still-native t d sound).place.start
