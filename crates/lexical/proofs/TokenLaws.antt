-- The theorems about what specs/Token.antt defines.
use Rattle.std.specs.Prelude.{ℕ, Bool, []}
use Rattle.std.proofs.Math.Option.{some}
use Rattle.text.specs.Reader.{Local, Mild}
use Rattle.text.proofs.Leaf.{run-local, run-mild}
use Rattle.lexical.specs.Token.{up_to, token}

pub token-local : (ends : ℕ → Bool) (c lim : ℕ) → Local (token ends c lim)
unfolding token
token-local ends c lim = run-local c (up_to ends lim) (λ w. some w) []

pub token-mild : (ends : ℕ → Bool) (c lim : ℕ) → Mild (token ends c lim)
unfolding token
token-mild ends c lim = run-mild c (up_to ends lim) (λ w. some w) []
