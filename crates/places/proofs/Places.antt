-- THE CLAIMS ON PLACES. To believe them, read: the grammar (Lang and Grammar), the reading that all contracts cite
-- (Reading and what it names, the header's among it), Terms (the words used here, and what it names), the record of specs/Places, and
-- the statements of this file. Every proof below is a citation.
use Rattle.std.specs.Prelude.{◌≡◌, ℕ, ◌-◌, ◌≤◌, List, ◌++◌, length, take}
use Rattle.text.specs.declared.TextLocation.{TextLocation}
use Rattle.text.specs.Place.{byte_of, start, past}
use Rattle.text.specs.Outcome.{accepted, refused, ending_at, shown}
use Rattle.header.specs.Header.{Head, header}
use Rattle.image.specs.Reading.{reading}
use Rattle.grammar.specs.Grammar.{Mask, Header}
use Rattle.claims.specs.Terms.{head_of}
use Rattle.places.specs.Terms.{Counted, line_start, Onward, Looked}
use Rattle.places.proofs.Counts
use Rattle.places.proofs.Opening
use Rattle.places.proofs.Telling
use Rattle.places.proofs.Looking
use Rattle.places.specs.Places.{Tells}

-- 1. TELLS. Of a refusal with number c and place p, for every text, name buffer and pixel buffer.
pub tells : (text name pixels : List ℕ) (c : ℕ) (p : TextLocation) → (reading text name pixels).answer ≡ refused c p
    → Tells text name pixels c p
tells t name pixels c p a = record {
  inside = Telling.inside t name pixels c p a;
  there = Telling.there t name pixels c p a;
  counted = Telling.counted t name pixels c p a;
  aligned = Telling.aligned t name pixels c p a;
  early = Telling.early t name pixels c p a;
  how = Telling.how t name pixels c p a;
}

-- 2. LOOKS. And where one of those three checks meets its byte, in whatever text, it tells its number there: 1 of a
-- symbol, the line's of a token.
pub looks : (text name pixels : List ℕ) (p : TextLocation) (c : ℕ) → Looked (length name) text p c
    → (reading text name pixels).answer ≡ refused c (past start (take (byte_of p) text))
looks = Looking.refused-there

-- 3. OPENS. An accepted header tells the place after it, by the same counts.
pub opens : (text name : List ℕ) (h : Head) (p : TextLocation) → shown (header (length name) text start) ≡ accepted (ending_at h p)
    → (m : Mask) × (u : List ℕ) × (v : List ℕ) × (head_of m ≡ h) × (text ≡ u ++ v) × Header (length name) m u × (p ≡ past start u) × Counted u p
opens text name h p a = let (m, u, v, e, q, k, o, c) = Opening.opens text name h p a in (m, u, v, e, q, k, o, c)

-- 4. STARTS. After n bytes of a text the line starts behind the last newline among them, and the column counts the bytes since.
pub starts : (text : List ℕ) (n : ℕ) → n ≤ length text
    → ((past start (take n text)).start.0 ≡ line_start (take n text)) × ((past start (take n text)).column.0 ≡ n - line_start (take n text))
starts = Counts.starts

-- From any other place on, such as a lent decoder's, all four numbers go on from its own.
pub onward : (p : TextLocation) (w : List ℕ) → Onward p w (past p w)
onward = Counts.onward
