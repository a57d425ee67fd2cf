-- The place that an accepted header tells: it is past the bytes of that header.
use Rattle.std.specs.Prelude.{◌≡◌, refl, ℕ, List, [], ◌++◌, length}
use Rattle.std.proofs.Common.{sym, ◌∙◌, arith}
use Rattle.text.specs.declared.TextLocation.{TextLocation}
use Rattle.text.specs.Place.{start, past}
use Rattle.text.specs.Reader.{Result, ok, stop, bad}
use Rattle.text.specs.Outcome.{accepted, ending_at, shown}
use Rattle.header.specs.Header.{Head, header}
use Rattle.grammar.specs.Grammar.{Mask, Header}
use Rattle.grammar.specs.Devices.{made}
use Rattle.grammar.proofs.Exact.{start-rest}
use Rattle.grammar.proofs.Headers.{header-exactly}
use Rattle.claims.specs.Terms.{head_of}
use Rattle.places.specs.Terms.{Counted}
use Rattle.places.proofs.Counts

read-so : (r : Result Head) (h : Head) (p : TextLocation) → shown r ≡ accepted (ending_at h p) → r ≡ ok h p
read-so (ok a e) h p q = cc
read-so (stop c e) h p q = let z : ◌≡◌ {A = ℕ} 0 1 = cc in absurd (omega arith)
read-so (bad c e) h p q = let z : ◌≡◌ {A = ℕ} 0 1 = cc in absurd (omega arith)

pub opens : (text name : List ℕ) (h : Head) (p : TextLocation) → shown (header (length name) text start) ≡ accepted (ending_at h p)
    → (m : Mask) × (u : List ℕ) × (v : List ℕ) × (head_of m ≡ h) × (text ≡ u ++ v) × Header (length name) m u × (p ≡ past start u) × Counted u p
opens t name h p a =
    let (u, v, d, k, f, o) = (header-exactly (length name) (made h []) t start p).0 (read-so (header (length name) t start) h p a) in
    (made h [], u, v, refl, sym (start-rest t) ∙ d, k, o, Counts.counted-at u o)
