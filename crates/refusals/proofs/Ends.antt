-- When 7 comes and when 8: exactly where the data bytes stand whole and the trailer does not, up to the semicolon or after it.
use Rattle.std.proofs.Math.Path.{◌≡◌, refl, sym, ap}
use Rattle.std.proofs.Common.{◌∙◌, arith}
use Rattle.std.specs.Prelude.{◌↔◌, Bool, eqb, ltb}
use Prim.Native.Nat.{ℕ, ◌+◌, ◌*◌, ◌/◌, ◌≤◌, min}
use Rattle.std.proofs.Math.Bool.{true, false}
use mathlib.Core.List.{List, [], ◌++◌, append-nil, append_assoc}
use Rattle.std.proofs.Math.ListN.{length}
use borrow.Author.Tests.{le-ltb, eqb-true, ltb-false}
use Rattle.text.specs.declared.TextLocation.{TextLocation}
use Rattle.text.specs.Place.{start, past, rest as rest_at}
use Rattle.text.specs.Reader.{Result, ok, stop, bad, then, ◌>>=◌}
use Rattle.text.specs.Leaf.{give, need}
use Rattle.text.specs.Outcome.{Outcome, accepted, refused, unplaced, outcome}
use Rattle.header.specs.Header.{Head, header}
use Rattle.body.specs.Data.{item, items, closing, tail, trailer}
use Rattle.cells.specs.Cells.{count}
use Rattle.rows.specs.Rows.{ending, whole}
use Rattle.image.specs.Reading.{picture, reading}
use Rattle.grammar.specs.Lang.{◌·◌}
use Rattle.grammar.specs.Grammar.{Mask, Header, Data, Closing, Loose}
use Rattle.grammar.specs.Devices.{head_of, made}
use Rattle.grammar.proofs.Bind.{past-append, move}
use Rattle.grammar.proofs.Fits.{Any, End}
use Rattle.grammar.proofs.Exact.{start-rest, data-fits, closing-fits, tail-fits}
use Rattle.claims.specs.Terms.{Begun, W, rows}
use Rattle.claims.proofs.Numbers.{no_number, header-numbered, items-numbered, item-numbered, closing-numbered, tail-numbered, whole-numbered, placed-number, untold, thirty-one}
use Rattle.claims.proofs.Limits.{heads}

-- the header and all data bytes stand at the text's start, in u; and the buffer has rows enough
pub record Whole (limit : ℕ) (text pixels u : List ℕ) (m : Mask) : Type 0 where
  pub bytes : length m.bytes ≡ W m * m.height
  pub enough : m.height ≤ rows m pixels
  pub stands : (Header limit m · Data m.bytes) u
  pub rest : List ℕ
  pub split : text ≡ u ++ rest

module _ (text name pixels : List ℕ) where
  read : (m : Mask) (u : List ℕ) → Whole (length name) text pixels u m
      → (e : TextLocation) × (header (length name) text start ≡ ok (head_of m) e) × (items (count m.width m.height (length pixels)) true text e ≡ ok m.bytes (past start u))
  unfolding ◌·◌ Any
  read m u w =
      let (x, y, q, h, d) = w.stands in
      let s : text ≡ x ++ (y ++ w.rest) = w.split ∙ ap (λ (l : List ℕ). l ++ w.rest) q ∙ append_assoc x y w.rest in
      let c : length m.bytes ≡ count m.width m.height (length pixels) = all w in
      (past start x, (heads (length name) m text (past start x)).1 (x, y ++ w.rest, s, h, refl), (data-fits (count m.width m.height (length pixels)) m.bytes).from text (past start x) y w.rest c (move x (y ++ w.rest) text start (start-rest text ∙ s)) d tt ∙ ap (ok m.bytes) (sym (ap (past start) q ∙ past-append start x y)))
    where
      all : Whole (length name) text pixels u m → length m.bytes ≡ count m.width m.height (length pixels)
      all w = let z : min (length pixels / m.width) m.height ≡ m.height = omega (arith, w.enough) in w.bytes ∙ ap (λ (n : ℕ). W m * n) (sym z)

  abbrev told : Result (Head × List ℕ) → Outcome Head
  told = outcome (λ (p : Head × List ℕ). p.0)

  given : (h : Head) (l : List ℕ) (r : Result (Unit {0})) (c : ℕ) (p : TextLocation) → (told (then (then r (λ a e. ok l e)) (λ l e. ok (h, l) e)) ≡ refused c p) ↔ (r ≡ stop c p)
  given h l (ok a e) c p = ((λ q. (let z : ◌≡◌ {A = ℕ} 0 1 = cc in absurd (omega arith))), λ q. (let z : ◌≡◌ {A = ℕ} 0 1 = cc in absurd (omega arith)))
  given h l (bad d e) c p = ((λ q. (let z : ◌≡◌ {A = ℕ} 0 1 = cc in absurd (omega arith))), λ q. (let z : ◌≡◌ {A = ℕ} 0 1 = cc in absurd (omega arith)))
  given h l (stop d e) c p = ((λ q. cc), λ q. cc)

  lost : (h : Head) (r : Result (Unit {0})) (c : ℕ) (p : TextLocation) → (told (then (then {B = List ℕ} r (λ a e. bad 31 e)) (λ l e. ok (h, l) e)) ≡ refused c p) ↔ (r ≡ stop c p)
  lost h (ok a e) c p = ((λ q. (let z : ◌≡◌ {A = ℕ} 0 1 = cc in absurd (omega arith))), λ q. (let z : ◌≡◌ {A = ℕ} 0 1 = cc in absurd (omega arith)))
  lost h (bad d e) c p = ((λ q. (let z : ◌≡◌ {A = ℕ} 0 1 = cc in absurd (omega arith))), λ q. (let z : ◌≡◌ {A = ℕ} 0 1 = cc in absurd (omega arith)))
  lost h (stop d e) c p = ((λ q. cc), λ q. cc)

  -- then a refusal with a place is the trailer's
  ended : (m : Mask) (u : List ℕ) → Whole (length name) text pixels u m → (c : ℕ) (p : TextLocation) → ((reading text name pixels).answer ≡ refused c p) ↔ (trailer text (past start u) ≡ stop c p)
  unfolding reading picture whole ◌>>=◌ give need
  ended m u w c p =
      let (e, h, i) = read m u w in
      rw (h, i, le-ltb (rows m pixels) m.height w.enough) (go (eqb (rows m pixels) m.height))
    where
      go : (b : Bool) → (told (then (ending b false (eqb (count m.width m.height (length pixels)) 0) m.bytes text (past start u)) (λ l e. ok (head_of m, l) e)) ≡ refused c p) ↔ (trailer text (past start u) ≡ stop c p)
      go true = given (head_of m) m.bytes (trailer text (past start u)) c p
      go false = lost (head_of m) (trailer text (past start u)) c p

  module _ (m : Mask) (u : List ℕ) (w : Whole (length name) text pixels u m) where
    here : (v : List ℕ) → w.rest ≡ v → rest_at text (past start u) ≡ v
    here v q = move u w.rest text start (start-rest text ∙ w.split) ∙ q

    closed_at : (z v : List ℕ) → w.rest ≡ z ++ v → Closing z → closing text (past start u) ≡ ok tt (past (past start u) z)
    unfolding Any
    closed_at z v q k = closing-fits.from text (past start u) z v tt (here (z ++ v) q) k tt

    closed-to : (e : TextLocation) → closing text (past start u) ≡ ok tt e → Begun Closing w.rest
    closed-to e q = let (x, (z, v, d, k, f, o)) = closing-fits.to text (past start u) e q in (z, v, sym (here w.rest refl) ∙ d, k)

    -- 7: the bytes of the trailer up to the semicolon do not stand there
    pub seven : ((p : TextLocation) × ((reading text name pixels).answer ≡ refused 7 p)) ↔ (Begun Closing w.rest → ⊥)
    unfolding trailer ◌>>=◌
    seven = go (closing text (past start u)) refl
      where
        go : (r : Result (Unit {0})) → closing text (past start u) ≡ r → ((p : TextLocation) × ((reading text name pixels).answer ≡ refused 7 p)) ↔ (Begun Closing w.rest → ⊥)
        go (ok a e) q = ((λ (p, x). absurd (omega (arith, placed-number (tail-numbered {lo = 8} {hi = 8} {bare = no_number} refl) text e 7 p (rw q at ((ended m u w 7 p).0 x))))), λ f. absurd (f (closed-to e q)))
        go (bad c e) q = absurd (untold (closing-numbered {lo = 7} {hi = 7} {bare = no_number} refl) text (past start u) c e refl q)
        go (stop c e) q = ((λ (p, x) (z, v, s, k). (let y : ◌≡◌ {A = ℕ} 0 1 = cc (q, closed_at z v s k) in omega arith)), λ f. (e, (ended m u w 7 e).1 (rw (q, number) refl)))
          where
            number : c ≡ 7
            number = omega (arith, placed-number (closing-numbered {lo = 7} {hi = 7} {bare = no_number} refl) text (past start u) c e q)

    -- 8: they do, and what follows is not loose space to the end
    pub eight : ((p : TextLocation) × ((reading text name pixels).answer ≡ refused 8 p)) ↔ (Begun Closing w.rest × ((z v : List ℕ) → w.rest ≡ z ++ v → Closing z → Loose v → ⊥))
    unfolding trailer ◌>>=◌ End
    eight = go (closing text (past start u)) refl
      where
        loose_at : (e : TextLocation) → closing text (past start u) ≡ ok tt e → (z v : List ℕ) → w.rest ≡ z ++ v → Closing z → Loose v → tail text e ≡ ok tt (past e v)
        loose_at e q z v s k l =
            let y : past (past start u) z ≡ e = cc (q, closed_at z v s k) in
            tail-fits.from text e v [] tt (rw (← y) (move z v text (past start u) (here (z ++ v) s)) ∙ sym (append-nil v)) l refl

        no-loose : (e f : TextLocation) → closing text (past start u) ≡ ok tt e → tail text e ≡ ok tt f → (z : List ℕ) × (v : List ℕ) × (w.rest ≡ z ++ v) × Closing z × Loose v
        no-loose e f q r =
            let (x, (z, v, d, k, g, o)) = closing-fits.to text (past start u) e q in
            let (y, (l, n, a, b, m, i)) = tail-fits.to text e f r in
            (z, v, sym (here w.rest refl) ∙ d, k, rw (loose-is v l n (sym (move z v text (past start u) d) ∙ ap (rest_at text) (sym o) ∙ a) m) b)
          where
            loose-is : (v l n : List ℕ) → v ≡ l ++ n → n ≡ [] → v ≡ l
            loose-is v l n p q = p ∙ ap (λ (x : List ℕ). l ++ x) q ∙ append-nil l

        last : (e : TextLocation) → closing text (past start u) ≡ ok tt e → (r : Result (Unit {0})) → tail text e ≡ r → ((p : TextLocation) × ((reading text name pixels).answer ≡ refused 8 p)) ↔ (Begun Closing w.rest × ((z v : List ℕ) → w.rest ≡ z ++ v → Closing z → Loose v → ⊥))
        last e q (ok a f) r = ((λ (p, x). (let y : ◌≡◌ {A = ℕ} 0 1 = cc (r, rw q at ((ended m u w 8 p).0 x)) in absurd (omega arith))), λ (b, g). (let (z, v, s, k, l) = no-loose e f q r in absurd (g z v s k l)))
        last e q (bad c f) r = absurd (untold (tail-numbered {lo = 8} {hi = 8} {bare = no_number} refl) text e c f refl r)
        last e q (stop c f) r =
            let n : c ≡ 8 = omega (arith, placed-number (tail-numbered {lo = 8} {hi = 8} {bare = no_number} refl) text e c f r) in
            ((λ x. (closed-to e q, λ z v s k l. (let y : ◌≡◌ {A = ℕ} 0 1 = cc (r, loose_at e q z v s k l) in omega arith))), λ x. (f, (ended m u w 8 f).1 (rw (q, r, n))))

        go : (r : Result (Unit {0})) → closing text (past start u) ≡ r → ((p : TextLocation) × ((reading text name pixels).answer ≡ refused 8 p)) ↔ (Begun Closing w.rest × ((z v : List ℕ) → w.rest ≡ z ++ v → Closing z → Loose v → ⊥))
        go (ok a e) q = last e q (tail text e) refl
        go (bad c e) q = absurd (untold (closing-numbered {lo = 7} {hi = 7} {bare = no_number} refl) text (past start u) c e refl q)
        go (stop c e) q = ((λ (p, x). (let y : c ≡ 8 = cc (rw q at ((ended m u w 8 p).0 x)) in absurd (omega (arith, placed-number (closing-numbered {lo = 7} {hi = 7} {bare = no_number} refl) text (past start u) c e q)))), λ ((z, v, s, k), g). (let y : ◌≡◌ {A = ℕ} 0 1 = cc (q, closed_at z v s k) in absurd (omega arith)))

  -- 7 and 8 come nowhere else
  pub whole_of : (c : ℕ) (p : TextLocation) → (reading text name pixels).answer ≡ refused c p → 7 ≤ c → (m : Mask) × (u : List ℕ) × Whole (length name) text pixels u m
  unfolding reading picture whole ◌>>=◌ give need Any ◌·◌
  whole_of c p a l = head (header (length name) text start) refl a
    where
      Goal : Type 0
      Goal = (m : Mask) × (u : List ℕ) × Whole (length name) text pixels u m

      build : (h : Head) (e : TextLocation) (b : List ℕ) (j : TextLocation) → header (length name) text start ≡ ok h e → items (count h.width h.height (length pixels)) true text e ≡ ok b j → h.height ≤ length pixels / h.width → Goal
      build h e b j q r n =
          let (x, s, d, k, o) = (heads (length name) (made h b) text e).0 q in
          let (f, (y, v, g, i, any, z)) = (data-fits (count h.width h.height (length pixels)) b).to text e j r in
          let m : min (length pixels / h.width) h.height ≡ h.height = omega arith in
          let t : s ≡ y ++ v = sym (move x s text start (start-rest text ∙ d)) ∙ ap (rest_at text) (sym o) ∙ g in
          (made h b, x ++ y, record { bytes = f ∙ ap (λ (n : ℕ). (h.width + 7) / 8 * n) m; enough = n; stands = (x, y, refl, k, i); rest = v; split = d ∙ ap (λ (r : List ℕ). x ++ r) t ∙ sym (append_assoc x y v) })

      tailed : (h : Head) (e : TextLocation) (b : List ℕ) (j : TextLocation) → header (length name) text start ≡ ok h e → items (count h.width h.height (length pixels)) true text e ≡ ok b j
          → (s few : Bool) → ltb (length pixels / h.width) h.height ≡ few → eqb (length pixels / h.width) h.height ≡ s → (f : Bool) → told (then (ending s few f b text j) (λ l e. ok (h, l) e)) ≡ refused c p → Goal
      tailed h e b j q r true few u v f x = build h e b j q r (omega (arith, eqb-true (length pixels / h.width) h.height v))
      tailed h e b j q r false false u v f x = build h e b j q r (ltb-false (length pixels / h.width) h.height u)
      tailed h e b j q r false true u v f x = few-case (item f text j) refl x
        where
          few-case : (r : Result ℕ) → item f text j ≡ r → told (then (then {B = List ℕ} r (λ a e. bad 31 e)) (λ l e. ok (h, l) e)) ≡ refused c p → Goal
          few-case (ok a e) q x = let z : ◌≡◌ {A = ℕ} 0 1 = cc in absurd (omega arith)
          few-case (bad d e) q x = let z : ◌≡◌ {A = ℕ} 0 1 = cc in absurd (omega arith)
          few-case (stop d e) q x = let z : d ≡ c = cc in absurd (omega (arith, placed-number (item-numbered {lo = 6} {hi = 6} {bare = no_number} f refl) text j d e q))

      body : (h : Head) (e : TextLocation) → header (length name) text start ≡ ok h e → (r : Result (List ℕ)) → items (count h.width h.height (length pixels)) true text e ≡ r
          → told (then (then r (λ b j. ending (eqb (length pixels / h.width) h.height) (ltb (length pixels / h.width) h.height) (eqb (count h.width h.height (length pixels)) 0) b text j)) (λ l e. ok (h, l) e)) ≡ refused c p → Goal
      body h e q (ok b j) r x = tailed h e b j q r (eqb (length pixels / h.width) h.height) (ltb (length pixels / h.width) h.height) refl refl (eqb (count h.width h.height (length pixels)) 0) x
      body h e q (bad d j) r x = let z : ◌≡◌ {A = ℕ} 0 1 = cc in absurd (omega arith)
      body h e q (stop d j) r x = let z : d ≡ c = cc in absurd (omega (arith, placed-number (items-numbered {lo = 6} {hi = 6} {bare = no_number} (count h.width h.height (length pixels)) true refl) text e d j r))

      head : (r : Result Head) → header (length name) text start ≡ r → told (then r (λ h e. then (then (items (count h.width h.height (length pixels)) true text e) (λ b j. ending (eqb (length pixels / h.width) h.height) (ltb (length pixels / h.width) h.height) (eqb (count h.width h.height (length pixels)) 0) b text j)) (λ l e. ok (h, l) e))) ≡ refused c p → Goal
      head (ok h e) q x = body h e q (items (count h.width h.height (length pixels)) true text e) refl x
      head (bad d e) q x = let z : ◌≡◌ {A = ℕ} 0 1 = cc in absurd (omega arith)
      head (stop d e) q x = let z : d ≡ c = cc in absurd (omega (arith, placed-number (header-numbered (length name)) text start d e q))

-- where a header stands, the answer is accepted, 31, or 6 to 8 with a place: so 6 comes exactly where none of the others does
abbrev pub Later : Outcome Head → Type 0
Later (accepted h) = Unit {0}
Later (refused c p) = (6 ≤ c) × (c ≤ 8)
Later (unplaced c) = c ≡ 31

pub later : (text name pixels : List ℕ) (m : Mask) → Begun (Header (length name) m) text → Later (reading text name pixels).answer
unfolding reading picture ◌>>=◌ give
later text name pixels m (u, v, q, k) =
    let h = (heads (length name) m text (past start u)).1 (u, v, q, k, refl) in
    rw h (go (whole m.width m.height (length pixels) text (past start u)) refl)
  where
    go : (r : Result (List ℕ)) → whole m.width m.height (length pixels) text (past start u) ≡ r → Later (outcome (λ (p : Head × List ℕ). p.0) (then r (λ l e. ok (head_of m, l) e)))
    go (ok l e) z = tt
    go (stop c e) z = placed-number (whole-numbered m.width m.height (length pixels)) text (past start u) c e z
    go (bad c e) z = thirty-one (whole-numbered m.width m.height (length pixels)) text (past start u) c e z
