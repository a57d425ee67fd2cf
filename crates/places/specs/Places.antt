-- What the claim on places says of a refusal, as a record. The claims stand in proofs/Places.
use Rattle.std.specs.Prelude.{◌≡◌, ℕ, ◌≤◌, List, length, take}
use Rattle.text.specs.declared.TextLocation.{TextLocation}
use Rattle.text.specs.Place.{byte_of, start, past}
use Rattle.text.specs.Outcome.{refused}
use Rattle.image.specs.Reading.{reading}
use Rattle.claims.specs.Terms.{Aligned}
use Rattle.places.specs.Terms.{Counted, How}

-- 1. TELLS. Of a refusal with number c and place p, for every text, name buffer and pixel buffer.
pub record Tells (text name pixels : List ℕ) (c : ℕ) (p : TextLocation) : Type 0 where
  -- the place is in the text or at its end
  pub inside : byte_of p ≤ length text
  -- it is the place after so many bytes of the text, taken one after another
  pub there : p ≡ past start (take (byte_of p) text)
  -- that is: byte is a count of bytes, line of newlines, column of the bytes since the last newline, start of those up to it
  pub counted : Counted (take (byte_of p) text) p
  -- so start and column make up the byte
  pub aligned : Aligned p
  -- no cut up to there is refused for good: a refusal of the first n bytes is at their own end
  pub early : (n : ℕ) → n ≤ byte_of p → (d : ℕ) (q : TextLocation)
      → (reading (take n text) name pixels).answer ≡ refused d q → q ≡ past start (take n text)
  -- the text ends there; or the byte just before is the wrong one; or it is one of the three checks that only look
  -- ahead, and the next byte is the one
  pub how : How text name pixels c p
