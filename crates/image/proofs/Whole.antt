-- A picture is its header, then its rows; a reading is what its four parts are.
use Rattle.std.specs.Prelude.{◌≡◌, ℕ, List, refl}
use Rattle.std.proofs.Common.{arith}
use Rattle.text.specs.declared.TextLocation.{TextLocation}
use Rattle.text.specs.Reader.{ok, then, ◌>>=◌}
use Rattle.text.specs.Leaf.{give}
use Rattle.header.specs.Header.{header}
use Rattle.rows.specs.Rows.{whole}
use Rattle.image.specs.Reading.{Reading, picture}

pub picture_then : (limit n : ℕ) (t : List ℕ) (i : TextLocation) → picture limit n t i ≡ then (header limit t i) (λ h e. then (whole h.width h.height n t e) (λ l q. ok (h, l) q))
unfolding picture ◌>>=◌ give
picture_then limit n t i = refl

pub same-reading : (a b : Reading) → a.answer ≡ b.answer → a.name ≡ b.name → a.symbol ≡ b.symbol → a.pixels ≡ b.pixels → a ≡ b
same-reading a b p q r s = grind arith
