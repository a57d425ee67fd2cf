-- The earliest place of a refusal after the closing: 8. Without the byte that was wrong the text is of the format.
use Rattle.std.proofs.Math.Path.{◌≡◌, sym}
use Rattle.std.specs.Prelude.{refl, ℕ, ◌*◌, ◌/◌, ◌≤◌, Bool, false, eqb}
use Rattle.std.proofs.Common.{ap, ◌∙◌, eqb-true, le-ltb}
use native.Mathlib.Omega.{arith}
use Rattle.std.proofs.Math.Bool.{true}
use mathlib.Core.List.{List, [], ◌∷◌}
use Rattle.std.proofs.Math.ListN.{length, take}
use Rattle.std.proofs.Math.Seq.{length-take-le}
use Rattle.text.specs.declared.TextLocation.{TextLocation}
use Rattle.text.specs.Place.{byte_of, rest, start}
use Rattle.text.specs.Rest.{Reach}
use Rattle.text.proofs.Rest.{walk-ahead, reach-inside, rest-room}
use Rattle.text.specs.Reader.{ok, stop, ◌>>=◌, Same}
use Rattle.text.proofs.Reader.{same-take}
use Rattle.text.specs.Leaf.{give}
use Rattle.text.specs.Outcome.{refused}
use Rattle.header.specs.Header.{Head, header}
use Rattle.header.proofs.Header.{header-local}
use Rattle.body.specs.Data.{items, closing, tail, trailer, bytes_of}
use Rattle.body.proofs.Data.{items-local, closing-local, tail-local}
use Rattle.cells.specs.Cells.{count}
use Rattle.rows.specs.Rows.{mismatch, ending}
use Rattle.image.specs.Reading.{reading}
use Rattle.grammar.specs.Lang.{◌·◌}
use Rattle.grammar.specs.Grammar.{Mask, Header, Data, Closing, Format}
use Rattle.grammar.proofs.Bind.{bind_ok}
use Rattle.grammar.proofs.Fits.{Any, End}
use Rattle.grammar.specs.Devices.{made}
use Rattle.grammar.proofs.Headers.{header-exactly}
use Rattle.grammar.proofs.Exact.{data-fits, closing-fits, parts}
use Rattle.claims.specs.Terms.{Begun, W, rows}
use Rattle.claims.proofs.Numbers.{no_number, only_31, Numbered, numbers, items-numbered, item-numbered, closing-numbered, bind-numbered, give-numbered, placed-number}
use Rattle.refusals.proofs.Stages.{stop-first, stop-second, at_both, begun}
use Rattle.places.specs.Savable.{Savable}
use Rattle.places.proofs.Saving.{Good, good-on, Saved, fits-keep, same-trans}
use Rattle.places.proofs.SavingParts.{tail-open}
use Rattle.places.proofs.EarliestLift.{savable, good_start}
use Rattle.places.proofs.EarliestData.{header-fits, headed, tests, few, enough}

nil-of : (l : List ℕ) → length l ≤ 0 → l ≡ []
nil-of [] h = refl
nil-of (x ∷ l) h = absurd (omega arith)

module _ (text name pixels : List ℕ) (p : TextLocation) where
  abbrev lim : ℕ
  lim = length name

  abbrev size : Head → ℕ
  size h = count h.width h.height (length pixels)

  closing-7 : Numbered 7 7 no_number closing
  closing-7 = search (numbers, closing-numbered)

  -- 8 comes from what follows the closing, and the rows are there
  abbrev After : Head → TextLocation → Type 0
  After h n = (few text name pixels p h ≡ false) × ((o : TextLocation) × (closing text n ≡ ok tt o) × (tail text o ≡ stop 8 p))

  from-trailer : (n : TextLocation) → trailer text n ≡ stop 8 p → (o : TextLocation) × (closing text n ≡ ok tt o) × (tail text o ≡ stop 8 p)
  unfolding trailer
  from-trailer n q = let (a, o, u, v) = (stop-second closing (λ a. tail) 8 text n closing-7 (λ a b. omega arith)).0 (p, q) in (o, u, sym (bind_ok closing (λ a. tail) text n a o u) ∙ q)

  from_tail : (h : Head) (e d f : Bool) → eqb (length pixels / h.width) h.height ≡ e → few text name pixels p h ≡ d → (l : List ℕ) (n : TextLocation) → ending e d f l text n ≡ stop 8 p → After h n
  from_tail h true d f a b l n q = (
    le-ltb (length pixels / h.width) h.height (omega (arith, eqb-true (length pixels / h.width) h.height a)),
    from-trailer n ((stop-first trailer (λ a. give l) 8 text n (λ a. give-numbered {lo = 1} {hi = 0} {bare = no_number} l) (λ a b. omega arith) p).0 q),
  )
  from_tail h false true f a b l n q = absurd (omega (arith, placed-number (bind-numbered (item-numbered {lo = 6} {hi = 6} {bare = only_31} f refl) (λ b. none-numbered)) text n 8 p q))
    where
      none-numbered : Numbered 6 6 only_31 mismatch
      none-numbered = search numbers
  from_tail h false false f a b l n q = (b, from-trailer n ((stop-first trailer (λ a. mismatch) 8 text n (λ a. none-numbered) (λ a b. omega arith) p).0 q))
    where
      none-numbered : Numbered 1 0 only_31 mismatch
      none-numbered = search numbers

  module _ (h : Head) (m : TextLocation) (l : List ℕ) (n o : TextLocation) (u : header lim text start ≡ ok h m) (v : items (bytes_of h.width h.height) true text m ≡ ok l n) (x : closing text n ≡ ok tt o) (y : tail text o ≡ stop 8 p) where
    to-m : Reach text start m
    to-m = rw u at ((header-local lim).reach text start)

    to-n : Reach text m n
    to-n = rw v at ((items-local (bytes_of h.width h.height) true).reach text m)

    to-o : Reach text n o
    to-o = rw x at (closing-local.reach text n)

    good : Good text o
    good = good-on (good-on (good-on (good_start text) to-m) to-n) to-o

    within : byte_of p ≤ length text
    within = reach-inside text o (rw y at (tail-local.reach text o)) good.inside

    -- a text with the same bytes up to there is read the same up to there
    module _ (U : List ℕ) (same : Same text U (byte_of o)) where
      any : (r : List ℕ) → Any r
      any r = unfold Any in tt

      U-header : header lim U start ≡ ok h m
      U-header = fits-keep {F = Any} (λ b. Unit {0}) (λ g. Header lim (made g [])) (header-fits lim) (λ r z. z) text U start h m u (λ i b. same i (omega (arith, walk-ahead to-n, walk-ahead to-o))) (any (rest U m))

      U-items : items (bytes_of h.width h.height) true U m ≡ ok l n
      U-items = fits-keep {F = Any} (λ l. length l ≡ bytes_of h.width h.height) Data (data-fits (bytes_of h.width h.height)) (λ r z. z) text U m l n v (λ i b. same i (omega (arith, walk-ahead to-o))) (any (rest U n))

      U-closing : closing U n ≡ ok tt o
      U-closing = fits-keep {F = Any} (λ b. Unit {0}) (λ b. Closing) (λ b. closing-fits) (λ r z. z) text U n tt o x same (any (rest U o))

      -- so where what follows is refused, it is not of the format
      not_so : tail U o ≡ stop 8 p → Format lim (made h l) U → ⊥
      unfolding trailer
      not_so s f =
          let (i, j, e, a, b, c) = (parts lim (made h l) U).1 f in
          let q : i ≡ m = cc (a, U-header) in
          let b' : items (bytes_of h.width h.height) true U m ≡ ok l j = rw q at b in
          let r : j ≡ n = cc (b', U-items) in
          let c' : (closing >>= λ a. tail) U n ≡ ok tt e = rw r at c in
          let d : tail U o ≡ ok tt e = sym (bind_ok closing (λ a. tail) U n tt o U-closing) ∙ c' in
          let z : ◌≡◌ {A = ℕ} 0 1 = cc (s, d) in omega arith

    made_so : Saved tail End End text o 8 p → Savable text p (Format lim (made h l))
    unfolding End trailer
    made_so (k, j, cut, w) =
        let U = take (byte_of w.end) w.text in
        let len : length U ≡ byte_of w.end = length-take-le (byte_of w.end) w.text w.inside in
        let s : Same w.text U (byte_of w.end) = same-take (byte_of w.end) w.text in
        let none_left : rest U w.end ≡ [] = nil-of (rest U w.end) (omega (arith, rest-room U w.end (omega arith))) in
        let t4 : tail U o ≡ ok tt w.end = w.reads U s none_left in
        let same : Same text U k = same-trans text w.text U w.same s w.far in
        let same-o : Same text U (byte_of o) = λ i b. same i (omega arith) in
        let f : Format lim (made h l) U = (parts lim (made h l) U).0 (m, n, w.end, U-header U same-o, U-items U same-o, bind_ok closing (λ a. tail) U n tt o (U-closing U same-o) ∙ t4) in
        savable (Format lim (made h l)) text o 8 p k within j cut U same f not_so

    saved-8 : Savable text p (Format lim (made h l))
    saved-8 = made_so (tail-open.saves text o 8 p good y)

    stood : Begun (Header lim (made h l) · Data l · Closing) text
    stood =
        (begun (Header lim (made h l) · Data l · Closing) text).0 (
          o,
          at_both (Header lim (made h l)) (Data l · Closing) text start m o ((header-exactly lim (made h l) text start m).0 u)
              (at_both (Data l) Closing text m n o ((data-fits (bytes_of h.width h.height) l).to text m n v).1 (closing-fits.to text n o x).1),
        )

  -- 8: without the byte that was wrong the text is of the format
  pub earliest-8 : (reading text name pixels).answer ≡ refused 8 p
      → (m : Mask) × (m.height ≤ rows m pixels) × (length m.bytes ≡ W m * m.height) × Begun (Header lim m · Data m.bytes · Closing) text × Savable text p (Format lim m)
  earliest-8 q =
      let (h, m, u, x) = headed text name pixels p 8 (omega arith) q in
      let (l, n, v, y) = (stop-second (items (size h) true) (tests text name pixels p h) 8 text m (items-numbered {lo = 6} {hi = 6} {bare = no_number} (size h) true refl) (λ a b. omega arith)).0 (p, x) in
      let (z, (o, a, b)) = from_tail h (eqb (length pixels / h.width) h.height) (few text name pixels p h) (eqb (size h) 0) refl refl l n (sym (bind_ok (items (size h) true) (tests text name pixels p h) text m l n v) ∙ x) in
      let (k, r) = enough text name pixels p h z in
      let w : items (bytes_of h.width h.height) true text m ≡ ok l n = ap (λ (k : ℕ). items k true text m) (sym r) ∙ v in
      (made h l, k, ((data-fits (bytes_of h.width h.height) l).to text m n w).0, stood h m l n o u w a b, saved-8 h m l n o u w a b)
