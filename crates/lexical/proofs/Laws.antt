-- What a step of the code says of the lexical rules.
use Prim.Native.Nat.{ℕ, ◌+◌, ◌*◌, ◌^◌, ◌<◌, ◌≤◌}
use native.Mathlib.Numerals.{add-one}
use native.Mathlib.Omega.{arith}
use mathlib.Core.Path.{◌≡◌, refl, sym, ap, ◌∙◌}
use mathlib.Core.Option.{some}
use mathlib.Core.List.{List}
use mathlib.Core.Bool.{Bool, true, false}
use lib.ListN.{length, drop, get_or, drop_of_length-le}
use lib.Seq.{drop-cons}
use Rattle.std.specs.Prelude.{Option as Taken, Some, None, Result as Answer}
use Rattle.text.specs.declared.TextLocation.{TextLocation}
use Rattle.text.specs.declared.TextReader.{TextReader}
use Rattle.text.specs.Place.{after, rest, peeked_at, past_byte}
use Rattle.text.specs.TextReader.{next_of, moved_to, passed}
use Rattle.text.specs.Reader.{ok, then, Reader, ◌>>=◌}
use Rattle.text.specs.Leaf.{give, one}
use Rattle.text.proofs.Laws.{next-less, next_past, reader_passed}
use Rattle.text.proofs.Reading.{run_on, run-stay, run_end}
use Rattle.lexical.specs.declared.XbmPart.{XbmPart}
use Rattle.lexical.specs.Class.{Decides, Judged}
use Rattle.lexical.specs.Lexical.{number, is, byte, while, skip, fixed}
use Rattle.lexical.specs.Reads.{Reads}

-- a part's number
pub number_small : (part : XbmPart) → number part ≤ 8
number_small part = grind arith

-- one reading after another, as an equation
pub bind_then : {A B : Type 0} (p : Reader A) (f : A → Reader B) (t : List ℕ) (i : TextLocation) → (p >>= f) t i ≡ then (p t i) (λ a e. f a t e)
unfolding ◌>>=◌
bind_then p f t i = refl

-- a byte as a closure judges it is one of the class that it decides
pub judged-byte : {post : ℕ → Bool → Type 0} {class : ℕ → Bool} → Decides post class → (part : XbmPart) {r₀ r₁ : TextReader} {m : Answer (Unit {0}) XbmPart} → Judged post part r₀ r₁ m → Reads (byte (number part) class) r₀ r₁ m
unfolding byte one
judged-byte d part j = grind (arith, d.decides)

-- what q gives at the reader r is what p gives at r₀, as in a loop that has begun at r₀ and stands at r
pub record Leads {A : Type 0} (p : Reader A) (r₀ : TextReader) (q : Reader A) (r : TextReader) : Type 0 where
  pub kept : r.text ≡ r₀.text
  pub same : q r.text.now r.location ≡ p r₀.text.now r₀.location

-- a reader at which a text goes on is short enough to be passed over
module _ (r₀ r : TextReader) (l : length r₀.text.now * 1 < 2 ^ 63) (k : r.text ≡ r₀.text) {m : Taken ℕ} (e : m ≡ next_of r) {b : ℕ} (h : m ≡ Some b) {r₁ : TextReader} (t : r₁ ≡ passed b r) where
  pub passed-kept : r₁ ≡ moved_to (after b r.location) r
  passed-kept = reader_passed r e h (rw (ap (λ s. length s.now * 1) k) l) t

  pub remains-less : length (rest r₁.text.now r₁.location) < length (rest r.text.now r.location)
  remains-less = rw (ap (λ r. r.text) passed-kept) (next-less r.text.now r.location e h (ap (λ r. r.location) passed-kept))

-- a run of a class
module _ (class : ℕ → Bool) (t : List ℕ) (i : TextLocation) where
  pub skip-more : {b : ℕ} → peeked_at t i ≡ Some b → class b ≡ true → length t * 1 < 2 ^ 63 → skip class t i ≡ skip class t (past_byte i b)
  unfolding skip
  skip-more {b} h y l =
      let z : past_byte i b ≡ after b i = next_past t i refl h l in
      sym (run_on 0 (while class) (λ s. some tt) tt t i refl h (rw y) refl) ∙ ap (λ q. skip class t q) (sym z)

  pub skip_stop : {b : ℕ} → peeked_at t i ≡ Some b → class b ≡ false → skip class t i ≡ ok tt i
  unfolding skip
  skip_stop h n = sym (run-stay 0 (while class) (λ s. some tt) tt t i refl h (rw n) refl)

  pub skip-end : peeked_at t i ≡ None → skip class t i ≡ ok tt i
  unfolding skip
  skip-end h = sym (run_end 0 (while class) (λ s. some tt) tt t i refl h refl refl)

pub ruleset skip_laws = (skip-more, skip_stop, skip-end, remains-less)

-- bytes that are read one after another: those of w from the nth on are left
module _ (c : ℕ) (w : List ℕ) (n : ℕ) (t : List ℕ) (i : TextLocation) where
  pub fixed-done : length w ≤ n → fixed c (drop n w) t i ≡ ok tt i
  unfolding fixed give
  fixed-done l = rw (drop_of_length-le w l)

  pub fixed-again : n < length w → fixed c (drop n w) t i ≡ then (byte c (is (get_or w n 0)) t i) (λ a e. fixed c (drop (n + 1) w) t e)
  unfolding fixed ◌>>=◌
  fixed-again l = rw (add-one, drop-cons w n 0 l)

pub ruleset fixed_laws = (fixed-done, fixed-again)
