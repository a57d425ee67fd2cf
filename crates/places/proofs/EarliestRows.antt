-- The earliest place of a refusal in the height line and the hotspot's lines: 2, 3 and 4.
use Rattle.std.specs.Prelude.{◌≡◌, ℕ, ◌≤◌, List, ◌++◌, length, ℤ}
use Rattle.std.proofs.Common.{sym, ◌∙◌, arith}
use Rattle.text.specs.declared.TextLocation.{TextLocation}
use Rattle.text.specs.Ascii.{ascii}
use Rattle.text.specs.Place.{start}
use Rattle.text.specs.Reader.{ok, stop, ◌>>=◌}
use Rattle.text.specs.Outcome.{refused}
use Rattle.image.specs.Reading.{reading}
use Rattle.grammar.specs.Lang.{Word}
use Rattle.grammar.specs.Grammar.{Mask, Side, Coordinate}
use Rattle.grammar.proofs.Bind.{bind_ok}
use Rattle.claims.specs.Terms.{Begun}
use Rattle.refusals.specs.Terms.{Front, Sides, Third}
use Rattle.refusals.proofs.HeaderRows.{first, first_fits, first-numbered, front-name, high, high-numbered, heights, header-next, sketch}
use Rattle.refusals.proofs.HotspotRows.{Three, Both, second, second_fits, second-numbered, both-name, further, header-second, hot, hot_x, hot-is, hot_y, hot-stop, hashed, left, left-numbered, third, third-fits, third-hot, third-numbered, Crossed, crossed-name, right, right-numbered, mask_of}
use Rattle.refusals.proofs.Stages.{stop-first, stop-second, read_at, begun}
use Rattle.places.specs.Savable.{SavableDefine}
use Rattle.places.proofs.EarliestLift.{staged, told-header}
use Rattle.places.proofs.EarliestLine.{at-known}

module _ (text name pixels : List ℕ) (p : TextLocation) where
  abbrev limit : ℕ
  limit = length name

  pub earliest-2 : (reading text name pixels).answer ≡ refused 2 p
      → (m : Mask) × Begun (Front limit m.name (Side m.width)) text × SavableDefine text p (Front limit m.name (Side m.width)) (Word (m.name ++ ascii "_height"))
  earliest-2 q =
      let x : (first limit >>= λ nw. heights nw.0 >>= high nw) text start ≡ stop 2 p = rw (header-next limit) at (told-header text name pixels 2 p (omega arith) q) in
      let (nw, m, u, z) = staged (first limit) (λ nw. heights nw.0) high 2 (first-numbered limit) (λ a b. omega arith) high-numbered (λ a b. omega arith) text p x in (
        sketch nw.0 nw.1 0,
        (begun (Front limit nw.0 (Side nw.1)) text).0 (m, ((read_at (first_fits limit nw) text start m).0 u).1),
        at-known 2 (first limit) (λ nw. Front limit nw.0 (Side nw.1)) (λ nw. nw.0) (ascii "height") (first_fits limit) (λ nw w k. front-name limit nw.0 (Side nw.1) w k) text p nw m u z,
      )

  -- where the sides end
  abbrev pub Sided : ℕ → Type 0
  Sided c = (a : Three) × (m : TextLocation) × (second limit text start ≡ ok a m) × (further a text m ≡ stop c p)

  pub sided : (c : ℕ) → 3 ≤ c → c ≤ 5 → (reading text name pixels).answer ≡ refused c p → Sided c
  sided c l k q =
      let x : (second limit >>= further) text start ≡ stop c p = rw (header-second limit) at (told-header text name pixels c p k q) in
      let (a, m, u, v) = (stop-second (second limit) further c text start (second-numbered limit) (λ a b. omega arith)).0 (p, x) in
      (a, m, u, sym (bind_ok (second limit) further text start a m u) ∙ x)

  -- a number before 5 after the sides: the hotspot's
  to-hot : (c : ℕ) → c ≤ 4 → (a : Three) (m : TextLocation) → second limit text start ≡ ok a m → further a text m ≡ stop c p → hot a text m ≡ stop c p
  to-hot c l a m u v =
      let (x, (w, r, d, k, f, o)) = (read_at (second_fits limit a) text start m).0 u in
      sym (hashed a text m ((hot-stop limit a text m (both-name limit a w k) c l).0 (p, v)).0) ∙ v

  pub earliest-3 : (reading text name pixels).answer ≡ refused 3 p
      → (m : Mask) × Begun (Sides limit m) text × SavableDefine text p (Sides limit m) (Word (m.name ++ ascii "_x_hot"))
  earliest-3 q =
      let (a, m, u, v) = sided 3 (omega arith) (omega arith) q in
      let x : hot_x a.0.0 text m ≡ stop 3 p = (stop-first (hot_x a.0.0) (left a) 3 text m (left-numbered a) (λ a b. omega arith) p).0 (rw (hot-is a) at (to-hot 3 (omega arith) a m u v)) in (
        mask_of a,
        (begun (Both limit a) text).0 (m, ((read_at (second_fits limit a) text start m).0 u).1),
        at-known 3 (second limit) (Both limit) (λ a. a.0.0) (ascii "x_hot") (second_fits limit) (both-name limit) text p a m u x,
      )

  pub earliest-4 : (reading text name pixels).answer ≡ refused 4 p
      → (m : Mask) × (x : ℤ) × Begun (Third limit m (Coordinate x)) text × SavableDefine text p (Third limit m (Coordinate x)) (Word (m.name ++ ascii "_y_hot"))
  earliest-4 q =
      let (a, m, u, v) = sided 4 (omega arith) (omega arith) q in
      let x : (third limit >>= λ b. hot_y b.0.0.0 >>= right b) text start ≡ stop 4 p = rw (third-hot limit) at (bind_ok (second limit) hot text start a m u ∙ to-hot 4 (omega arith) a m u v) in
      let (b, n, k, z) = staged (third limit) (λ b. hot_y b.0.0.0) right 4 (third-numbered limit) (λ a b. omega arith) right-numbered (λ a b. omega arith) text p x in (
        mask_of b.0,
        b.1,
        (begun (Crossed limit b) text).0 (n, ((read_at (third-fits limit b) text start n).0 k).1),
        at-known 4 (third limit) (Crossed limit) (λ b. b.0.0.0) (ascii "y_hot") (third-fits limit) (crossed-name limit) text p b n k z,
      )
