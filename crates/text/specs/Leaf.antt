-- The leaves: a value, a test that takes nothing, one byte, a run that a small machine scans, a literal, a look ahead, the end of the text.
use Rattle.std.specs.Prelude.{◌≡◌, ℕ, ◌+◌, ◌≤◌, Bool, true, false, List, [], ◌∷◌, ◌==◌}
use Rattle.std.proofs.Math.Option.{Option, none, some}
use Rattle.std.proofs.Math.ListN.{get_elem?}
use Rattle.text.specs.declared.TextLocation.{TextLocation}
use Rattle.text.specs.Place.{rest, after, byte_of}
use Rattle.text.specs.Rest.{Walk}
use Rattle.text.specs.Reader.{Result, ok, stop, bad, end_of, end_byte, Reader}

-- ---- a value, a test with a place, a test without: they take no byte

unfoldable pub give : {A : Type 0} → A → Reader A
give a t i = ok a i

unfoldable pub want : {A : Type 0} → ℕ → Option A → Reader A
want c none t i = stop c i
want c (some a) t i = ok a i

unfoldable pub need : {A : Type 0} → ℕ → Option A → Reader A
need c none t i = bad c i
need c (some a) t i = ok a i

-- ---- a look at what remains: of the next byte and what follows it, or of the end
-- All that reads the text is of this form. `Here` says of such a reader what Local, Firm, Mild and Grows say, at one list.

pub record Heads {A : Type 0} (k : List ℕ → TextLocation → Result A) : Type 0 where
  pub goes : (l : List ℕ) (i : TextLocation) → Walk l i (end_of (k l i))
  pub like : (l m : List ℕ) (i : TextLocation) → ((j : ℕ) → byte_of i + j ≤ end_byte (k l i) → get_elem? l j ≡ get_elem? m j) → k m i ≡ k l i

abbrev pub at : {A : Type 0} → (List ℕ → TextLocation → Result A) → Reader A
at k t i = k (rest t i) i

-- two lists with the same first byte, or both empty
pub data Alike : List ℕ → List ℕ → Type 0 where
  nils : Alike [] []
  heads : {b : ℕ} {l m : List ℕ} → Alike (b ∷ l) (b ∷ m)

-- ---- one byte

abbrev pub judge : {A : Type 0} → ℕ → Option A → TextLocation → Result A
judge c none i = stop c i
judge c (some a) i = ok a i

module _ {A : Type 0} (c : ℕ) (g : ℕ → Option A) where
  abbrev pub first : List ℕ → TextLocation → Result A
  first [] i = stop c i
  first (b ∷ l) i = judge c (g b) (after b i)

  unfoldable pub one : Reader A
  one t i = first (rest t i) i

-- ---- a run of bytes: a small machine that goes on, or stays before a byte with an answer, or is refused there; at the end it answers too

pub data Move (S A : Type 0) : Type 0 where
  go_on : S → Move S A
  stay : A → Move S A
  halt : Move S A

abbrev pub moved : {S A : Type 0} → ℕ → TextLocation → Move S A → (S → Result A) → Result A
moved c i (go_on s) k = k s
moved c i (stay a) k = ok a i
moved c i halt k = stop c i

module _ {S A : Type 0} (c : ℕ) (step : S → ℕ → Move S A) (fin : S → Option A) where
  abbrev pub scan : S → List ℕ → TextLocation → Result A
  scan s [] i = judge c (fin s) i
  scan s (x ∷ l) i = moved c i (step s x) (λ s'. scan s' l (after x i))

  unfoldable pub run : S → Reader A
  run s t i = scan s (rest t i) i

-- ---- a look at the next byte, which picks what goes on

abbrev pub choose : {A : Type 0} → ℕ → TextLocation → Reader A → Reader A → Bool → Bool → Reader A
choose c n p q true z t i = p t i
choose c n p q false true t i = q t i
choose c n p q false false t i = stop c n

abbrev pub fork_of : {A : Type 0} → ℕ → ℕ → Reader A → ℕ → Reader A → List ℕ → Reader A
fork_of c x p y q [] t i = stop c i
fork_of c x p y q (b ∷ l) t i = choose c (after b i) p q (b == x) (b == y) t i

unfoldable pub fork : {A : Type 0} → ℕ → ℕ → Reader A → ℕ → Reader A → Reader A
fork c x p y q t i = fork_of c x p y q (rest t i) t i

-- ---- the end of the text

abbrev pub end_if : ℕ → List ℕ → TextLocation → Result (Unit {0})
end_if c [] i = ok tt i
end_if c (b ∷ l) i = stop c (after b i)

unfoldable pub eot : ℕ → Reader (Unit {0})
eot c t i = end_if c (rest t i) i
