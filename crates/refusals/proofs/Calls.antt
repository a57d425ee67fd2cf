-- Calls for the next data byte, on any decoder: which are foreign, where a refused call leaves the decoder, what a call after the end gives.
use Rattle.std.specs.Prelude.{◌≡◌, ◌↔◌, ℕ, ◌+◌, ◌≤◌, ◌<◌, Bool, true, false, List, [], ◌∷◌, length, eqb, ltb}
use Rattle.std.proofs.Math.Path.{refl}
use Rattle.std.proofs.Common.{sym, ap, ◌∙◌, inl, inr, arith}
use Rattle.std.proofs.Math.Decide.{dec_lt}
use Rattle.std.proofs.Math.Option.{Option, none, some}
use Rattle.std.proofs.lemmas.Bool.{false≢true}
use borrow.Author.Tests.{eqb-true, eqb-false, ltb-true, ltb-false, lt-ltb, le-ltb}
use Rattle.text.specs.declared.TextLocation.{TextLocation}
use Rattle.text.specs.Place.{pick, rest}
use Rattle.text.specs.Rest.{Reach}
use Rattle.text.proofs.Rest.{reach-inside, walk-sound}
use Rattle.text.specs.Reader.{Result, ok, stop, bad, end_of, then, ◌>>=◌, ◌>>◌, Local}
use Rattle.text.proofs.Reader.{bind-local}
use Rattle.text.specs.Leaf.{give, run, fork, eot, end_if}
use Rattle.text.proofs.Leaf.{give-local}
use Rattle.text.specs.Outcome.{Outcome, accepted, refused, unplaced, outcome}
use Rattle.lexical.specs.Lexical.{is_loose, skip}
use Rattle.body.specs.Data.{item, trailer, closing, brace, tail, bytes_of}
use Rattle.body.proofs.Data.{item-local, trailer-local}
use Rattle.decoder.specs.declared.XbmStreamDecoder.{XbmStreamDecoder}
use Rattle.decoder.specs.Step.{foreign, more, called, spent, placed_at, step_of}
use Rattle.grammar.proofs.Bind.{bind-case, bind_ok, bind-stop}
use Rattle.claims.proofs.Numbers.{no_number, Numbered, bind-numbered, give-numbered, item-numbered, trailer-numbered, untold}
use Rattle.claims.specs.Steps.{size_of}
use Rattle.claims.proofs.Steps.{Native, not-foreign, next-answer, last-answer}
use Rattle.refusals.specs.Terms.{moved, Spent, Foreign, no-width, no-height, position, byte, column, line, start}

pub foreign-exactly : (t : List ℕ) (d : XbmStreamDecoder) → (foreign t d ≡ true) ↔ Foreign t d
unfolding foreign
foreign-exactly t d = go _ _ _ _ _ _ refl refl refl refl refl refl
  where
    go : (a b c e f g : Bool) → eqb d.width 0 ≡ a → eqb d.height 0 ≡ b → ltb (bytes_of d.width d.height) d.current_position ≡ c → ltb (length t) d.location.byte.0 ≡ e
        → eqb (d.location.start.0 + d.location.column.0) d.location.byte.0 ≡ f → ltb (d.location.byte.0 + 1) d.location.line.0 ≡ g
        → (pick a true (pick b true (pick c true (pick e true (pick f g true)))) ≡ true) ↔ Foreign t d
    go true b c e f g p q r s u v = ((λ x. no-width (eqb-true _ _ p)), λ x. refl)
    go false true c e f g p q r s u v = ((λ x. no-height (eqb-true _ _ q)), λ x. refl)
    go false false true e f g p q r s u v = ((λ x. position (ltb-true _ _ r)), λ x. refl)
    go false false false true f g p q r s u v = ((λ x. byte (ltb-true _ _ s)), λ x. refl)
    go false false false false false g p q r s u v = ((λ x. above (dec_lt d.location.byte.0 d.location.column.0)), λ x. refl)
      where
        above : Dec (d.location.byte.0 < d.location.column.0) → Foreign t d
        above (yes l) = column l
        above (no l) = start (λ x. eqb-false (d.location.start.0 + d.location.column.0) d.location.byte.0 u (omega arith))
    go false false false false true true p q r s u v = ((λ x. line (ltb-true _ _ v)), λ x. refl)
    go false false false false true false p q r s u v = ((λ x. absurd (false≢true x)), λ x. absurd (none_left x))
      where
        none_left : Foreign t d → ⊥
        none_left (no-width x) = eqb-false _ _ p x
        none_left (no-height x) = eqb-false _ _ q x
        none_left (position x) = omega (arith, ltb-false (bytes_of d.width d.height) d.current_position r)
        none_left (byte x) = omega (arith, ltb-false (length t) d.location.byte.0 s)
        none_left (column x) = omega (arith, eqb-true (d.location.start.0 + d.location.column.0) d.location.byte.0 u)
        none_left (start x) = x (omega (arith, eqb-true (d.location.start.0 + d.location.column.0) d.location.byte.0 u))
        none_left (line x) = omega (arith, ltb-false (d.location.byte.0 + 1) d.location.line.0 v)

called-numbered : (d : XbmStreamDecoder) → Numbered 6 8 no_number (called d)
unfolding called
called-numbered d = go (more d)
  where
    go : (b : Bool) → Numbered 6 8 no_number (pick b (item (eqb d.current_position 0) >>= λ b. give (some b)) (trailer >> give none))
    go true = bind-numbered (item-numbered _ refl) (λ b. give-numbered (some b))
    go false = bind-numbered (trailer-numbered refl refl) (λ b. give-numbered none)

-- 9 is told exactly of a foreign decoder, and it stays as it was
pub nine : (t : List ℕ) (d : XbmStreamDecoder) → ((step_of t d).answer ≡ unplaced 9) ↔ Foreign t d
unfolding step_of
nine t d = go (foreign t d) refl
  where
    never : (r : Result (Option ℕ)) → called d t d.location ≡ r → outcome (λ b. b) r ≡ unplaced 9 → ⊥
    never (ok a e) q x = let z : ◌≡◌ {A = ℕ} 0 1 = cc in omega arith
    never (stop c e) q x = let z : ◌≡◌ {A = ℕ} 0 1 = cc in omega arith
    never (bad c e) q x = untold (called-numbered d) t d.location c e refl q

    go : (f : Bool) → foreign t d ≡ f → (pick f (unplaced 9) (outcome (λ b. b) (called d t d.location)) ≡ unplaced 9) ↔ Foreign t d
    go true q = ((λ x. (foreign-exactly t d).0 q), λ x. refl)
    go false q = ((λ x. absurd (never (called d t d.location) refl x)), λ x. absurd (false≢true (sym q ∙ (foreign-exactly t d).1 x)))

pub unchanged : (t : List ℕ) (d : XbmStreamDecoder) → Foreign t d → (step_of t d).decoder ≡ d
unfolding step_of
unchanged t d h = rw ((foreign-exactly t d).1 h)

-- a refused call has spent its data byte, if one was left, and stands at the place told
pub goes_on : (t : List ℕ) (d : XbmStreamDecoder) (c : ℕ) (p : TextLocation) → (step_of t d).answer ≡ refused c p → (k : ℕ) × Spent d k × ((step_of t d).decoder ≡ moved d k p)
unfolding step_of
goes_on t d c p = go (foreign t d) (called d t d.location)
  where
    more-or-not : Dec (d.current_position < size_of d) → Spent d (spent d)
    more-or-not (yes l) = inl (l, rw (lt-ltb d.current_position (size_of d) l))
    more-or-not (no l) = inr (omega arith, rw (le-ltb d.current_position (size_of d) (omega arith)))

    go : (f : Bool) (r : Result (Option ℕ)) → pick f (unplaced 9) (outcome (λ b. b) r) ≡ refused c p → (k : ℕ) × Spent d k × (pick f d (placed_at d (spent d) (end_of r)) ≡ moved d k p)
    go true r q = let z : ◌≡◌ {A = ℕ} 0 1 = cc in absurd (omega arith)
    go false (ok a e) q = let z : ◌≡◌ {A = ℕ} 0 1 = cc in absurd (omega arith)
    go false (bad x e) q = let z : ◌≡◌ {A = ℕ} 0 1 = cc in absurd (omega arith)
    go false (stop x e) q = let z : e ≡ p = cc in (spent d, more-or-not (dec_lt d.current_position (size_of d)), ap (moved d (spent d)) z)

-- ---- after the end

ended : (t : List ℕ) (i e : TextLocation) → trailer t i ≡ ok tt e → rest t e ≡ []
unfolding trailer tail eot
ended t i e q = bind-case closing (λ a. tail) t i q (λ a m u v. bind-case (skip is_loose) (λ a. eot 8) t m v (λ b n x y. go n (rest t n) refl y))
  where
    go : (n : TextLocation) (l : List ℕ) → rest t n ≡ l → end_if 8 l n ≡ ok tt e → rest t e ≡ []
    go n [] r y = let z : n ≡ e = cc in rw z at r
    go n (b ∷ l) r y = let z : ◌≡◌ {A = ℕ} 0 1 = cc in absurd (omega arith)

skip-end : (t : List ℕ) (e : TextLocation) → rest t e ≡ [] → skip is_loose t e ≡ ok tt e
unfolding skip run
skip-end t e q = rw q

brace-end : (t : List ℕ) (e : TextLocation) → rest t e ≡ [] → brace t e ≡ stop 7 e
unfolding brace fork
brace-end t e q = rw q

at-end : (t : List ℕ) (e : TextLocation) → rest t e ≡ [] → trailer t e ≡ stop 7 e
unfolding trailer closing
at-end t e q = bind-stop closing (λ a. tail) t e 7 e (bind_ok (skip is_loose) _ t e tt e (skip-end t e q) ∙ bind-stop brace _ t e 7 e (brace-end t e q))

pub of-here : (t : List ℕ) (d : XbmStreamDecoder) → foreign t d ≡ false → Native t d
of-here t d q = record {
  wide = λ x. not_so (no-width x);
  high = λ x. not_so (no-height x);
  position = under (λ x. not_so (position x));
  inside = under (λ x. not_so (byte x));
  place = record { start = adds-up _ refl; line = under (λ x. not_so (line x)) };
}
  where
    not_so : Foreign t d → ⊥
    not_so x = false≢true (sym q ∙ (foreign-exactly t d).1 x)

    under : {a b : ℕ} → (b < a → ⊥) → a ≤ b
    under {a} {b} h = go (dec_lt b a)
      where
        go : Dec (b < a) → a ≤ b
        go (yes l) = absurd (h l)
        go (no l) = omega arith

    adds-up : (f : Bool) → eqb (d.location.start.0 + d.location.column.0) d.location.byte.0 ≡ f → d.location.start.0 + d.location.column.0 ≡ d.location.byte.0
    adds-up true u = eqb-true _ _ u
    adds-up false u = absurd (not_so (start (λ x. eqb-false (d.location.start.0 + d.location.column.0) d.location.byte.0 u (omega (arith, under (λ y. not_so (column y)))))))

-- a call leaves no foreign decoder behind
called-local : (d : XbmStreamDecoder) → Local (called d)
unfolding called
called-local d = go (more d)
  where
    go : (b : Bool) → Local (pick b (item (eqb d.current_position 0) >>= λ b. give (some b)) (trailer >> give none))
    go true = bind-local (item-local (eqb d.current_position 0)) (λ b. give-local (some b))
    go false = bind-local trailer-local (λ b. give-local none)

pub still-native : (t : List ℕ) (d : XbmStreamDecoder) → Native t d → Native t (step_of t d).decoder
unfolding step_of
still-native t d h = rw (not-foreign t d h) (record { wide = h.wide; high = h.high; position = spent-within (dec_lt d.current_position (size_of d)); inside = reach-inside t d.location w h.inside; place = walk-sound w h.place })
  where
    w : Reach t d.location (end_of (called d t d.location))
    w = (called-local d).reach t d.location

    spent-within : Dec (d.current_position < size_of d) → spent d ≤ size_of d
    spent-within (yes l) = rw (lt-ltb d.current_position (size_of d) l) (omega arith)
    spent-within (no l) = rw (le-ltb d.current_position (size_of d) (omega arith)) (omega (arith, h.position))

module _ (t : List ℕ) (d : XbmStreamDecoder) (h : Native t d) (l : d.current_position ≡ size_of d) where
  pub last-decoder : (step_of t d).decoder ≡ placed_at d d.current_position (end_of (trailer t d.location))
  unfolding step_of called ◌>>=◌ give
  last-decoder = rw (not-foreign t d h, le-ltb d.current_position (size_of d) (omega arith)) (go (trailer t d.location))
    where
      go : (r : Result (Unit {0})) → placed_at d d.current_position (end_of (then {B = Option ℕ} r (λ b e. ok none e))) ≡ placed_at d d.current_position (end_of r)
      go (ok b e) = refl
      go (stop c e) = refl
      go (bad c e) = refl

  -- where what remains is nothing
  pub at_last : rest t d.location ≡ [] → ((step_of t d).answer ≡ refused 7 d.location) × ((step_of t d).decoder ≡ d)
  at_last r = (last-answer t d h l ∙ rw (at-end t d.location r), last-decoder ∙ rw (at-end t d.location r))

-- a call after a sound trailer meets the end and gives 7; the decoder stays where it stands
-- what is given of a data byte is never none
pub none-given : (r : Result ℕ) → outcome (λ b. some b) r ≡ accepted none → ⊥
none-given (ok b e) q = let z : ◌≡◌ {A = ℕ} 0 1 = cc in omega arith
none-given (stop c e) q = let z : ◌≡◌ {A = ℕ} 0 1 = cc in omega arith
none-given (bad c e) q = let z : ◌≡◌ {A = ℕ} 0 1 = cc in omega arith

pub seven : (t : List ℕ) (d : XbmStreamDecoder) → (step_of t d).answer ≡ accepted none
    → ((step_of t (step_of t d).decoder).answer ≡ refused 7 (step_of t d).decoder.location) × ((step_of t (step_of t d).decoder).decoder ≡ (step_of t d).decoder)
seven t d a = go (foreign t d) refl
  where
    Goal : XbmStreamDecoder → Type 0
    Goal e = ((step_of t e).answer ≡ refused 7 e.location) × ((step_of t e).decoder ≡ e)

    sound : Native t d → d.current_position ≡ size_of d → (r : Result (Unit {0})) → trailer t d.location ≡ r → ◌≡◌ {A = Outcome (Option ℕ)} (outcome (λ u. none) r) (accepted none) → Goal (placed_at d d.current_position (end_of r))
    sound h l (ok u e) q x =
        let w : Reach t d.location e = rw q at (trailer-local.reach t d.location) in
        let n : Native t (placed_at d d.current_position e) = record { wide = h.wide; high = h.high; position = h.position; inside = reach-inside t d.location w h.inside; place = walk-sound w h.place } in
        at_last t (placed_at d d.current_position e) n l (ended t d.location e q)
    sound h l (stop c e) q x = let z : ◌≡◌ {A = ℕ} 0 1 = cc in absurd (omega arith)
    sound h l (bad c e) q x = let z : ◌≡◌ {A = ℕ} 0 1 = cc in absurd (omega arith)

    split : Native t d → Dec (d.current_position < size_of d) → Goal (step_of t d).decoder
    split h (yes l) = absurd (none-given (item (eqb d.current_position 0) t d.location) (sym (next-answer t d h l) ∙ a))
    split h (no l) = let e : d.current_position ≡ size_of d = omega (arith, h.position) in rw (last-decoder t d h e) (sound h e (trailer t d.location) refl (sym (last-answer t d h e) ∙ a))

    nine-not : unplaced 9 ≡ (step_of t d).answer → ⊥
    nine-not q = let z : ◌≡◌ {A = ℕ} 0 1 = cc in omega arith

    go : (f : Bool) → foreign t d ≡ f → Goal (step_of t d).decoder
    go true q = absurd (nine-not (sym ((nine t d).1 ((foreign-exactly t d).0 q))))
    go false q = split (of-here t d q) (dec_lt d.current_position (size_of d))
