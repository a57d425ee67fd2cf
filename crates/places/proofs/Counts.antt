-- A place past some bytes, as counts of bytes, newlines, bytes since the last newline and bytes up to it.
use Rattle.std.specs.Prelude.{◌≡◌, refl, ◌⊎◌, ℕ, zero, suc, ◌+◌, ◌-◌, ◌≤◌, ◌<◌, min, Bool, true, false, not, List, [], ◌∷◌, ◌++◌, length, take, eqb}
use Rattle.std.proofs.Common.{ap, ◌∙◌, inl, inr, arith, length-append, length-take-le, eqb-true}
use Rattle.std.proofs.lemmas.Bool.{not-true}
use Rattle.text.specs.declared.TextLocation.{TextLocation}
use Rattle.text.specs.Ascii.{ascii}
use Rattle.text.specs.Place.{pick, after, start, past}
use Rattle.text.specs.Rest.{newlines}
use Rattle.grammar.specs.Lang.{All}
use Rattle.grammar.proofs.Bind.{past-byte}
use Rattle.places.specs.Terms.{Counted, sooner, line_start, Onward}

-- the line: 2 ^ 64 - 1 stays
lined : (d : Bool) (l n m : ℕ) → l ≤ m → min (pick d (min (l + 1) m) l + n) m ≡ min (l + (pick d 1 0 + n)) m
lined true l n m h = omega arith
lined false l n m h = omega arith

room : (d : Bool) (l m : ℕ) → l ≤ m → pick d (min (l + 1) m) l ≤ m
room true l m h = omega arith
room false l m h = omega arith

past-line : (p : TextLocation) (w : List ℕ) → p.line.0 ≤ 18446744073709551615 → (past p w).line.0 ≡ min (p.line.0 + newlines w) 18446744073709551615
unfolding after
past-line p [] h = omega arith
past-line p (b ∷ w) h = past-line (after b p) w (room (eqb b 10) p.line.0 18446744073709551615 h) ∙ lined (eqb b 10) p.line.0 (newlines w) 18446744073709551615 h

-- column and start, by the column, byte and start before and the line start of the bytes between
abbrev column_by : ℕ → ℕ → ℕ → ℕ
column_by column bytes zero = column + bytes
column_by column bytes (suc n) = bytes - suc n

abbrev start_by : ℕ → ℕ → ℕ → ℕ
start_by start byte zero = start
start_by start byte (suc n) = byte + suc n

column-step : (d : Bool) (c k n : ℕ) → column_by (pick d 0 (c + 1)) k n ≡ column_by c (suc k) (sooner d n)
column-step true c k zero = omega arith
column-step true c k (suc n) = omega arith
column-step false c k zero = omega arith
column-step false c k (suc n) = omega arith

start-step : (d : Bool) (s b n : ℕ) → start_by (pick d (b + 1) s) (b + 1) n ≡ start_by s b (sooner d n)
start-step true s b zero = omega arith
start-step true s b (suc n) = omega arith
start-step false s b zero = omega arith
start-step false s b (suc n) = omega arith

past-columns : (p : TextLocation) (w : List ℕ) → (past p w).column.0 ≡ column_by p.column.0 (length w) (line_start w)
unfolding after
past-columns p [] = omega arith
past-columns p (b ∷ w) = past-columns (after b p) w ∙ column-step (eqb b 10) p.column.0 (length w) (line_start w)

past-starts : (p : TextLocation) (w : List ℕ) → (past p w).start.0 ≡ start_by p.start.0 p.byte.0 (line_start w)
unfolding after
past-starts p [] = omega arith
past-starts p (b ∷ w) = past-starts (after b p) w ∙ start-step (eqb b 10) p.start.0 p.byte.0 (line_start w)

-- from any place on
pub onward : (p : TextLocation) (w : List ℕ) → Onward p w (past p w)
onward p w = record {
  byte = past-byte p w;
  line = past-line p w;
  same = λ z. (rw z at (past-columns p w), rw z at (past-starts p w));
  next = λ l. behind (line_start w) l (past-columns p w) (past-starts p w);
}
  where
    behind : (n : ℕ) → 0 < n → (past p w).column.0 ≡ column_by p.column.0 (length w) n → (past p w).start.0 ≡ start_by p.start.0 p.byte.0 n
        → ((past p w).column.0 ≡ length w - n) × ((past p w).start.0 ≡ p.byte.0 + n)
    behind zero l c s = absurd (omega arith)
    behind (suc n) l c s = (c, s)

-- from the start on
from_start : (n k : ℕ) → (column_by 0 k n ≡ k - n) × (start_by 0 0 n ≡ n)
from_start zero k = (omega arith, omega arith)
from_start (suc n) k = (omega arith, omega arith)

pub starts : (text : List ℕ) (n : ℕ) → n ≤ length text
    → ((past start (take n text)).start.0 ≡ line_start (take n text)) × ((past start (take n text)).column.0 ≡ n - line_start (take n text))
starts t n h =
    let (c, s) = from_start (line_start (take n t)) (length (take n t)) in
    (past-starts start (take n t) ∙ s, past-columns start (take n t) ∙ c ∙ ap (λ (k : ℕ). k - line_start (take n t)) (length-take-le n t h))

-- the bytes up to the last newline, and those after it
abbrev Split : List ℕ → Type 0
Split w = (u : List ℕ) × (l : List ℕ) × (w ≡ u ++ l) × ((u ≡ []) ⊎ ((v : List ℕ) × (u ≡ v ++ ascii "\n"))) × All (λ b. not (eqb b 10)) l

split : (w : List ℕ) → Split w
split [] = ([], [], refl, inl refl, tt)
split (b ∷ w) = let (u, l, q, e, a) = split w in go (eqb b 10) refl u l q e a
  where
    go : (d : Bool) → eqb b 10 ≡ d → (u l : List ℕ) → w ≡ u ++ l → (u ≡ []) ⊎ ((v : List ℕ) × (u ≡ v ++ ascii "\n")) → All (λ b. not (eqb b 10)) l → Split (b ∷ w)
    go d z u l q (inr (v, e)) a = (b ∷ u, l, ap (λ (x : List ℕ). b ∷ x) q, inr (b ∷ v, ap (λ (x : List ℕ). b ∷ x) e), a)
    go true z u l q (inl e) a = (b ∷ [], l, ap (λ (x : List ℕ). b ∷ x) (q ∙ ap (λ (x : List ℕ). x ++ l) e), inr ([], ap (λ (x : ℕ). x ∷ []) (eqb-true b 10 z)), a)
    go false z u l q (inl e) a = ([], b ∷ l, ap (λ (x : List ℕ). b ∷ x) (q ∙ ap (λ (x : List ℕ). x ++ l) e), inl refl, (ap not z, a))

-- bytes after the last newline have no line start; those up to it have it at their end
plain-start : (l : List ℕ) → All (λ b. not (eqb b 10)) l → line_start l ≡ 0
plain-start [] h = refl
plain-start (b ∷ l) (h, k) = rw (not-true (eqb b 10) h, plain-start l k)

behind-start : (v l : List ℕ) → All (λ b. not (eqb b 10)) l → line_start ((v ++ ascii "\n") ++ l) ≡ suc (length v)
behind-start [] l h = ap (sooner true) (plain-start l h)
behind-start (b ∷ v) l h = ap (sooner (eqb b 10)) (behind-start v l h)

whole-start : (u l : List ℕ) → (u ≡ []) ⊎ ((v : List ℕ) × (u ≡ v ++ ascii "\n")) → All (λ b. not (eqb b 10)) l → line_start (u ++ l) ≡ length u
whole-start u l (inl e) a = rw e (plain-start l a)
whole-start u l (inr (v, e)) a = rw e (behind-start v l a ∙ omega (arith, length-append v (ascii "\n")))

counted : (w : List ℕ) → Counted w (past start w)
counted w =
    let (u, l, q, e, a) = split w in
    let k : line_start w ≡ length u = ap line_start q ∙ whole-start u l e a in
    let (c, s) = from_start (line_start w) (length w) in
    record {
      whole = u;
      begun = l;
      split = q;
      lines = e;
      plain = a;
      byte = past-byte start w ∙ omega arith;
      line = past-line start w (omega arith);
      column = past-columns start w ∙ c ∙ omega (arith, k, ap length q, length-append u l);
      start = past-starts start w ∙ s ∙ k;
    }

pub counted-at : (w : List ℕ) {p : TextLocation} → p ≡ past start w → Counted w p
counted-at w e = rw e (counted w)
