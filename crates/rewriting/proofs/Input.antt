-- Why the program's buffers are large enough: one byte past the limit tells a text that is too long.
use Rattle.std.specs.Prelude.{◌≡◌, refl, ℕ, min, List, length, take}
use Rattle.std.proofs.Common.{arith, ap, ◌∙◌}
use Rattle.std.proofs.lemmas.List.{take_min}
use Rattle.image.specs.Limited.{within}
use Rattle.print.specs.Output.{Output}
use Rattle.listing.specs.Listing.{Listed, listed_within, listed}
use Rattle.listing.proofs.Sizes.{listed-beginning}
use Rattle.program.specs.Program.{Holds}
use Rattle.rewriting.specs.Rewriting.{rewriting, Rewrites}
use Rattle.rewriting.proofs.Sizes.{rewriting-inside, rewriting-beginning}
use Rattle.rewriting.specs.Program.{Renews, RewritesInput}

-- the buffers that a reading within the limits leaves are those of the listing
listed-symbol : (text name cells : List ℕ) → (within 65536 65536 text name cells).symbol ≡ (listed text name cells).symbol
unfolding listed_within
listed-symbol text name cells = refl

listed-cells : (text name cells : List ℕ) → (within 65536 65536 text name cells).pixels ≡ (listed text name cells).cells
unfolding listed_within
listed-cells text name cells = refl

module _ (text : List ℕ) (n : ℕ) (name cells out name' cells' : List ℕ) {out' : List ℕ} {r m : ℕ} (k : Rewrites 65536 65536 (take m text) name cells out name' cells' out' r) (c : m ≡ min n 65537) (l : length text ≡ 65537) where
  renews : (input : List ℕ) → Holds text n input → Renews input name cells out name' cells' out' r
  renews input e =
      let came : take m text ≡ take (length text) input = rw (c, ← l, take_min n text) e in
      let same : listed (take m text) name cells ≡ listed input name cells = ap (λ (t : List ℕ). listed t name cells) came ∙ listed-beginning input name cells (length text) (omega arith) in
      record {
        prints = k.prints ∙ ap (λ (t : List ℕ). rewriting 65536 65536 t name cells out) came ∙ rewriting-beginning 65536 65536 input name cells out (length text) (omega arith);
        named = k.named ∙ listed-symbol (take m text) name cells ∙ ap (λ (x : Listed). x.symbol) same;
        filled = k.filled ∙ listed-cells (take m text) name cells ∙ ap (λ (x : Listed). x.cells) same;
      }

  pub rewrites-input : length name ≡ 256 → length cells ≡ 65536 → length out ≡ 411140 → RewritesInput text n name cells out name' cells' out' r
  rewrites-input s p o = record {
    prints = renews;
    symbol = s;
    picture = p;
    room = o;
    within = omega (arith, rewriting-inside 65536 65536 (take m text) name cells out, ap (λ (x : Output). x.at) k.prints, ap (λ (x : Output). length x.bytes) k.prints);
  }
