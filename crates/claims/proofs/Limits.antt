-- The program's two limits: when 41 comes and when 42; and that its answer is else the reading's.
use Rattle.std.proofs.Math.Path.{◌≡◌, refl, ap}
use Rattle.std.proofs.Common.{sym, ◌∙◌}
use Rattle.std.specs.Prelude.{◌↔◌, ℕ, ◌*◌, ◌≤◌, ◌<◌, Bool, true, false, length, take, drop, ltb}
use native.Mathlib.Omega.{arith}
use mathlib.Core.List.{List, [], ◌++◌}
use borrow.Author.Tests.{lt-ltb, le-ltb, ltb-true, ltb-false}
use Rattle.text.specs.declared.TextLocation.{TextLocation}
use Rattle.text.specs.Place.{pick, start, past}
use Rattle.text.specs.Reader.{Result, ok, stop, bad, then, ◌>>=◌}
use Rattle.text.specs.Leaf.{give}
use Rattle.text.specs.Outcome.{unplaced, outcome}
use Rattle.symbol.specs.Symbol.{stored}
use Rattle.header.specs.Header.{Head, header}
use Rattle.lexical.specs.Token.{overlay}
use Rattle.rows.specs.Rows.{whole}
use Rattle.image.specs.Reading.{picture, reading}
use Rattle.image.specs.Limited.{cells_of, unpictured, pictured, after_header, limited, unread, within}
use Rattle.listing.specs.Listing.{listed_of, Listed, listed_within, listed}
use Rattle.grammar.specs.Grammar.{Mask, Header}
use Rattle.grammar.specs.Devices.{head_of, made}
use Rattle.claims.specs.Terms.{Begun}
use Rattle.grammar.proofs.Fits.{Any}
use Rattle.grammar.proofs.Headers.{header-exactly}
use Rattle.grammar.proofs.Exact.{start-rest}
use Rattle.claims.proofs.Headless.{stood, stands}
use Rattle.claims.proofs.Numbers.{in_header, only_31, header-numbered, whole-numbered, untold}

-- ---- the header alone

-- it is accepted at a place exactly where one stands at the text's start and ends there
pub heads : (limit : ℕ) (m : Mask) (text : List ℕ) (p : TextLocation) → (header limit text start ≡ ok (head_of m) p) ↔ ((u : List ℕ) × (v : List ℕ) × (text ≡ u ++ v) × Header limit m u × (p ≡ past start u))
unfolding Any
heads limit m t p = (
  (λ q. let (u, v, d, k, a, o) = (header-exactly limit m t start p).0 q in (u, v, sym (start-rest t) ∙ d, k, o)),
  λ (u, v, q, k, o). (header-exactly limit m t start p).1 (u, v, start-rest t ∙ q, k, tt, o),
)

-- ---- the limits

module _ (text name : List ℕ) (c : ℕ) (h : in_header c ≡ false) (o : only_31 c ≡ false) where
  no_header : (e : TextLocation) → header (length name) text start ≡ bad c e → ⊥
  no_header e q = untold (header-numbered (length name)) text start c e h q

  -- no reading tells such a number
  never : (pixels : List ℕ) → (reading text name pixels).answer ≡ unplaced c → ⊥
  unfolding reading picture ◌>>=◌ give
  never pixels = go (header (length name) text start) refl
    where
      later : (d : Head) (e : TextLocation) (r : Result (List ℕ)) → whole d.width d.height (length pixels) text e ≡ r → outcome (λ (p : Head × List ℕ). p.0) (then r (λ l e. ok (d, l) e)) ≡ unplaced c → ⊥
      later d e (ok l m) q x = let z : ◌≡◌ {A = ℕ} 0 1 = cc in omega arith
      later d e (stop x m) q y = let z : ◌≡◌ {A = ℕ} 0 1 = cc in omega arith
      later d e (bad x m) q y = let z : x ≡ c = cc in untold (whole-numbered d.width d.height (length pixels)) text e c m o (q ∙ ap (λ (n : ℕ). bad n m) z)

      go : (r : Result Head) → header (length name) text start ≡ r → outcome (λ (p : Head × List ℕ). p.0) (then r (λ d e. then (whole d.width d.height (length pixels) text e) (λ l e. ok (d, l) e))) ≡ unplaced c → ⊥
      go (ok d e) q x = later d e (whole d.width d.height (length pixels) text e) refl x
      go (stop x e) q y = let z : ◌≡◌ {A = ℕ} 0 1 = cc in omega arith
      go (bad x e) q y = let z : x ≡ c = cc in no_header e (q ∙ ap (λ (n : ℕ). bad n e) z)

-- 41 exactly where the text has more than 65,536 bytes
pub too_long : (text name cells : List ℕ) → ((listed text name cells).told ≡ unplaced 41) ↔ (65536 < length text)
unfolding listed_within within limited after_header
too_long text name cells = go (ltb 65536 (length text)) refl (header (length name) text start) refl
  where
    go : (b : Bool) → ltb 65536 (length text) ≡ b → (r : Result Head) → header (length name) text start ≡ r → ((pick b (unread (unplaced 41) name cells) (after_header 65536 text name cells r)).answer ≡ unplaced 41) ↔ (65536 < length text)
    go true q r k = ((λ x. ltb-true 65536 (length text) q), λ x. refl)
    go false q (ok d e) k = ((λ x. absurd (large (ltb 65536 (cells_of d)) x)), λ x. absurd (omega (arith, ltb-false 65536 (length text) q)))
      where
        large : (b : Bool) → (pick b (unpictured (unplaced 42) d.name text name cells) (pictured (reading text name (take (cells_of d) cells)) (drop (cells_of d) cells))).answer ≡ unplaced 41 → ⊥
        large true x = let z : ◌≡◌ {A = ℕ} 42 41 = cc in omega arith
        large false x = never text name 41 refl refl (take (cells_of d) cells) x
    go false q (stop c e) k = ((λ x. (let z : ◌≡◌ {A = ℕ} 0 1 = cc in absurd (omega arith))), λ x. absurd (omega (arith, ltb-false 65536 (length text) q)))
    go false q (bad c e) k = ((λ x. (let z : c ≡ 41 = cc in absurd (no_header text name 41 refl refl e (k ∙ ap (λ (n : ℕ). bad n e) z)))), λ x. absurd (omega (arith, ltb-false 65536 (length text) q)))

-- 42 exactly where it has no more, and begins with a header of more than 65,536 cells
pub too_large : (text name cells : List ℕ) → ((listed text name cells).told ≡ unplaced 42) ↔ ((length text ≤ 65536) × ((m : Mask) × Begun (Header (length name) m) text × (65536 < m.width * m.height)))
unfolding listed_within within limited after_header
too_large text name cells = go (ltb 65536 (length text)) refl (header (length name) text start) refl
  where
    Large : Type 0
    Large = (length text ≤ 65536) × ((m : Mask) × Begun (Header (length name) m) text × (65536 < m.width * m.height))

    known : (r : Result Head) → header (length name) text start ≡ r → Large → (m : Mask) × (e : TextLocation) × (r ≡ ok (head_of m) e) × (65536 < m.width * m.height)
    known r k (s, (m, b, l)) = let (e, q) = stood (length name) text m b in (m, e, sym k ∙ q, l)

    go : (b : Bool) → ltb 65536 (length text) ≡ b → (r : Result Head) → header (length name) text start ≡ r → ((pick b (unread (unplaced 41) name cells) (after_header 65536 text name cells r)).answer ≡ unplaced 42) ↔ Large
    go true q r k = ((λ x. (let z : ◌≡◌ {A = ℕ} 41 42 = cc in absurd (omega arith))), λ (s, x). absurd (omega (arith, ltb-true 65536 (length text) q)))
    go false q (ok d e) k = large (ltb 65536 (cells_of d)) refl
      where
        large : (b : Bool) → ltb 65536 (cells_of d) ≡ b → ((pick b (unpictured (unplaced 42) d.name text name cells) (pictured (reading text name (take (cells_of d) cells)) (drop (cells_of d) cells))).answer ≡ unplaced 42) ↔ Large
        large true u = ((λ x. (ltb-false 65536 (length text) q, (made d [], stands (length name) text d e k, ltb-true 65536 (cells_of d) u))), λ x. refl)
        large false u = ((λ x. absurd (never text name 42 refl refl (take (cells_of d) cells) x)), λ x. (let (m, i, y, l) = known (ok d e) k x in let z : d ≡ head_of m = cc in absurd (omega (arith, ltb-false 65536 (cells_of d) u, ap cells_of z))))
    go false q (stop c e) k = ((λ x. (let z : ◌≡◌ {A = ℕ} 0 1 = cc in absurd (omega arith))), λ x. (let (m, i, y, l) = known (stop c e) k x in let z : ◌≡◌ {A = ℕ} 0 1 = cc in absurd (omega arith)))
    go false q (bad c e) k = ((λ x. (let z : c ≡ 42 = cc in absurd (no_header text name 42 refl refl e (k ∙ ap (λ (n : ℕ). bad n e) z)))), λ x. (let (m, i, y, l) = known (bad c e) k x in let z : ◌≡◌ {A = ℕ} 0 1 = cc in absurd (omega arith)))

-- ---- what is left in the buffers, and what is read else

module _ (text name cells : List ℕ) where
  -- 41 reads nothing
  pub long-buffers : 65536 < length text → ((listed text name cells).symbol ≡ name) × ((listed text name cells).cells ≡ cells)
  unfolding listed_within within
  long-buffers l = (rw (lt-ltb 65536 (length text) l), rw (lt-ltb 65536 (length text) l))

  module _ (short : length text ≤ 65536) where
    after : listed text name cells ≡ listed_of (after_header 65536 text name cells (header (length name) text start))
    unfolding listed_within within limited
    after = rw (le-ltb 65536 (length text) short)

    module _ (m : Mask) (b : Begun (Header (length name) m) text) where
      head : header (length name) text start ≡ ok (head_of m) (stood (length name) text m b).0
      head = (stood (length name) text m b).1

      -- 42 reads the header alone
      pub large-buffers : 65536 < m.width * m.height → ((listed text name cells).symbol ≡ (reading text name cells).symbol) × ((listed text name cells).cells ≡ cells)
      unfolding after_header reading
      large-buffers l =
          (ap (λ (l : Listed). l.symbol) after ∙ rw (head, lt-ltb 65536 (m.width * m.height) l), ap (λ (l : Listed). l.cells) after ∙ rw (head, lt-ltb 65536 (m.width * m.height) l))

      -- within the limits: the reading into the first cells
      read_all : m.width * m.height ≤ 65536 → listed text name cells ≡ listed_of (pictured (reading text name (take (m.width * m.height) cells)) (drop (m.width * m.height) cells))
      unfolding after_header
      read_all l = after ∙ rw (head, le-ltb 65536 (m.width * m.height) l)

      pub read-so : m.width * m.height ≤ 65536
          → ((listed text name cells).told ≡ (reading text name (take (m.width * m.height) cells)).answer)
          × ((listed text name cells).symbol ≡ (reading text name (take (m.width * m.height) cells)).symbol)
          × ((listed text name cells).cells ≡ (reading text name (take (m.width * m.height) cells)).pixels ++ drop (m.width * m.height) cells)
      read-so l = (ap (λ (l : Listed). l.told) (read_all l), ap (λ (l : Listed). l.symbol) (read_all l), ap (λ (l : Listed). l.cells) (read_all l))

    -- no header: what any reading tells
    pub headless-so : ((m : Mask) → Begun (Header (length name) m) text → ⊥) → (pixels : List ℕ)
        → ((listed text name cells).told ≡ (reading text name pixels).answer) × ((listed text name cells).symbol ≡ (reading text name pixels).symbol) × ((listed text name cells).cells ≡ cells)
    unfolding after_header reading picture ◌>>=◌
    headless-so n pixels = rw after (go (header (length name) text start) refl)
      where
        go : (r : Result Head) → header (length name) text start ≡ r
            → ((after_header 65536 text name cells r).answer ≡ outcome (λ (p : Head × List ℕ). p.0) (then r (λ h e. (whole h.width h.height (length pixels) >>= λ l. give (h, l)) text e)))
            × ((after_header 65536 text name cells r).symbol ≡ overlay (stored (length name) text) name) × ((after_header 65536 text name cells r).pixels ≡ cells)
        go (ok h e) q = absurd (n (made h []) (stands (length name) text h e q))
        go (stop c e) q = (refl, refl, refl)
        go (bad c e) q = (refl, refl, refl)
