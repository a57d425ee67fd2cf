-- At a foreign place a text reader acts as at its end: nothing is there, and nothing moves.
use Rattle.std.specs.Prelude.{ℕ, ◌≡◌, List, None}
use Rattle.text.specs.declared.TextLocation.{TextLocation}
use Rattle.text.specs.Place.{peeked_at}
use Rattle.text.specs.TextReader.{onward_at}

pub record Stays (t : List ℕ) (p : TextLocation) : Type 0 where
  pub nothing : peeked_at t p ≡ None
  pub unmoved : onward_at t p ≡ p
