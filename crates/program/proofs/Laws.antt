-- Why the buffers are large enough: one byte past the limit tells a text that is too long, and no listing is longer than 133 bytes.
use Rattle.std.specs.Prelude.{◌≡◌, ℕ, ◌≤◌, ◌<◌, min, List, ◌++◌, length, take, drop}
use Rattle.std.proofs.Common.{arith, sym, ap, ◌∙◌, length-take, take_all}
use Rattle.std.proofs.lemmas.Grind.{common_steps}
use Rattle.std.proofs.lemmas.List.{take_min}
use Rattle.text.specs.Ascii.{ascii}
use Rattle.text.specs.Place.{start}
use Rattle.header.specs.Header.{header}
use Rattle.image.specs.Limited.{after_header, limited}
use Rattle.print.specs.Output.{output, puts, joined}
use Rattle.print.proofs.Output.{puts-start}
use Rattle.print.specs.Decimal.{digits}
use Rattle.printing.specs.Printed.{printed}
use Rattle.listing.specs.Listing.{Listed, listed_of, listed, listing, Lists}
use Rattle.listing.proofs.Sizes.{listing-short, listed-long, listed-short, listed-beginning}
use Rattle.program.specs.Program.{Holds, Prints, ListsInput}

-- the promise speaks of some input at every call
pub holds-own : (text : List ℕ) (n : ℕ) → Holds text n (take n text)
holds-own text n = sym (take_all (length text) (take n text) (omega (arith, length-take n text)))

-- with room for every listing, all of it is written and the rest of the output is as lent
module _ (w out out' : List ℕ) (r : ℕ) (short : length w ≤ length out) (e : output out' r ≡ puts w (output out 0)) where
  all : output out' r ≡ output (w ++ drop (length w) out) (length w)
  all = e ∙ puts-start w out short

  wrote : take r out' ≡ w
  wrote = grind (arith, common_steps, all)

  others : drop r out' ≡ drop r out
  others = grind (arith, common_steps, all)

  within : r ≤ length out'
  within = grind (arith, common_steps, all)

too_long : (input name cells : List ℕ) → 65536 < length input → listing input name cells ≡ ascii "refused 41\n"
unfolding joined digits
too_long input name cells h = ap (λ (x : Listed). printed x.told x.ink) (listed-long input name cells h)

limit-so : (input name cells : List ℕ) → length name ≡ 256 → listed_of (limited 65536 input name cells) ≡ listed_of (after_header 65536 input name cells (header 256 input start))
unfolding limited
limit-so input name cells s = rw s

module _ (text : List ℕ) (n : ℕ) (name cells out name' cells' : List ℕ) {out' : List ℕ} {r m : ℕ} (k : Lists 65536 65536 (take m text) name cells out name' cells' out' r) (c : m ≡ min n 65537) (l : length text ≡ 65537) where
  short : 133 ≤ length out → length (listing (take m text) name cells) ≤ length out
  short h = omega (arith, listing-short (take m text) name cells)

  prints : 133 ≤ length out → length name ≡ 256 → (input : List ℕ) → Holds text n input → Prints input name cells out name' cells' out' r
  prints h s input e =
      let came : take m text ≡ take (length text) input = rw (c, ← l, take_min n text) e in
      let same : listed (take m text) name cells ≡ listed input name cells = ap (λ (t : List ℕ). listed t name cells) came ∙ listed-beginning input name cells (length text) (omega arith) in
      let all : take r out' ≡ listing input name cells = wrote _ out out' r (short h) k.prints ∙ ap (λ (x : Listed). printed x.told x.ink) same in
      record {
        whole = all;
        others = others _ out out' r (short h) k.prints;
        long = λ b. all ∙ too_long input name cells b;
        short = λ b. listed-short input name cells b ∙ limit-so input name cells s;
        named = k.named ∙ ap (λ (x : Listed). x.symbol) same;
        filled = k.filled ∙ ap (λ (x : Listed). x.cells) same;
      }

  pub lists-input : 133 ≤ length out → length name ≡ 256 → length cells ≡ 65536 → ListsInput text n name cells out name' cells' out' r
  lists-input h s p = record { prints = prints h s; symbol = s; picture = p; within = within _ out out' r (short h) k.prints }
