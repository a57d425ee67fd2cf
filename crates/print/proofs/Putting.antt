-- The bytes of a word put one by one into the lent buffer.
use Rattle.std.specs.Prelude.{◌≡◌, ℕ, ◌+◌, ◌<◌, ◌≤◌, List, [], ◌∷◌, refl, take, length, slice_set}
use Rattle.std.proofs.Common.{◌∙◌, add-one, lt-ltb, le-ltb}
use Rattle.std.proofs.Math.Seq.{take-suc}
use Rattle.std.proofs.lemmas.List.{take_all}
use lib.ListN.{get_or, set}
use borrow.Rule.Slice.Mut.{set_vals}
use Rattle.print.specs.declared.Buffer.{Buffer}
use Rattle.print.specs.Output.{Output, output, put, puts}
use Rattle.print.specs.Puts.{Puts, held}
use Rattle.print.proofs.Output.{puts-append}

pub put_in : (b : ℕ) (s : List ℕ) (k : ℕ) → k < length s → output (set s k b) (k + 1) ≡ put b (output s k)
unfolding put
put_in b s k h = rw (lt-ltb k (length s) h) refl

pub put-out : (b : ℕ) (s : List ℕ) (k : ℕ) → length s ≤ k → output s k ≡ put b (output s k)
unfolding put
put-out b s k h = rw (le-ltb k (length s) h) refl

-- i bytes of w are put into the same buffer, and the next one goes to `at`
pub record Putting (w : List ℕ) (i : ℕ) (before now : Buffer) (at : ℕ) : Type 0 where
  pub same : now.bytes.ghost_name ≡ before.bytes.ghost_name
  pub gives : output now.bytes.now at ≡ puts (take i w) (held before)

pub putting-none : (w : List ℕ) (o : Buffer) → Putting w 0 o o o.at
unfolding puts
putting-none w o = record { same = refl; gives = refl }

module _ (w : List ℕ) (i : ℕ) (o : Buffer) (h : i < length w) where
  next : (b : Output) → b ≡ puts (take i w) (held o) → put (get_or w i 0) b ≡ puts (take (i + 1) w) (held o)
  unfolding puts
  next b e = rw (add-one, take-suc w i 0 h, puts-append (take i w) (get_or w i 0 ∷ []) (held o), e) refl

  module _ (o' : Buffer) (at : ℕ) (p : Putting w i o o' at) where
    pub putting_in : {t : Buffer} {k : ℕ} → at < length o'.bytes.now → t ≡ record { bytes = set_vals (slice_set o'.bytes.now at (get_or w i 0)) o'.bytes; at = o'.at } → k ≡ at + 1 → Putting w (i + 1) o t k
    putting_in r e f = rw (e, f) (record { same = p.same; gives = put_in (get_or w i 0) o'.bytes.now at r ∙ next (output o'.bytes.now at) p.gives })

    pub putting-out : {t : Buffer} {k : ℕ} → length o'.bytes.now ≤ at → t ≡ o' → k ≡ at → Putting w (i + 1) o t k
    putting-out r e f = rw (e, f) (record { same = p.same; gives = put-out (get_or w i 0) o'.bytes.now at r ∙ next (output o'.bytes.now at) p.gives })

pub putting-done : (w : List ℕ) (i : ℕ) {o o' : Buffer} {at : ℕ} → Putting w i o o' at → length w ≤ i → Puts w o (record { bytes = o'.bytes; at = at })
putting-done w i p h = record { same = p.same; gives = (rw (take_all i w h) at p.gives) }

pub ruleset putting_laws = (putting-none, putting_in, putting-out, putting-done)
