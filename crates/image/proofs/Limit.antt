-- An accepted header and its picture within the limit on the cells are the reading within it.
use Rattle.std.specs.Prelude.{◌≡◌, ℕ, ◌*◌, ◌≤◌, ◌<◌, List, Result as Answer, Ok}
use Rattle.std.proofs.Common.{arith}
use Rattle.std.proofs.lemmas.Grind.{common_steps}
use Rattle.std.proofs.Math.Decide.{dec_lt}
use Rattle.text.specs.declared.TextLocation.{TextLocation}
use Rattle.text.specs.Reader.{◌>>=◌}
use Rattle.text.specs.Leaf.{give}
use Rattle.header.specs.declared.XbmHeaderData.{XbmHeaderData}
use Rattle.error.specs.declared.XbmDecodeError.{XbmDecodeError}
use Rattle.header.specs.declared.NamedAnswer.{NamedAnswer}
use Rattle.header.specs.Answer.{Headed}
use Rattle.image.specs.declared.LimitedError.{LimitedError}
use Rattle.image.specs.Reading.{reading, picture}
use Rattle.image.specs.Limited.{limited, after_header, Bounded, Limited}

module _ (limit : ℕ) (t name name' lent later : List ℕ) {h : NamedAnswer (XbmHeaderData × TextLocation) (XbmDecodeError TextLocation)} (k : Headed t name name' h)
    {d : XbmHeaderData} {p : TextLocation} (e : h.answer ≡ Ok (d, p)) {r : Answer XbmHeaderData LimitedError} (m : Bounded limit d t p lent later r) where
  headed-large : limit < d.width * d.height → Limited limit t name lent name' later (record { answer = r; name = h.name })
  unfolding limited after_header
  headed-large l = grind (arith, common_steps)

  headed-small : d.width * d.height ≤ limit → Limited limit t name lent name' later (record { answer = r; name = h.name })
  unfolding limited after_header reading picture ◌>>=◌ give
  headed-small l = grind (arith, common_steps)

  pub headed_read : Limited limit t name lent name' later (record { answer = r; name = h.name })
  headed_read = elim (dec_lt limit (d.width * d.height)) [ yes l ↦ headed-large l | no l ↦ headed-small (omega arith) ]
