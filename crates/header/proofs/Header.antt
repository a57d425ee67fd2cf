-- The theorems about what specs/Header.antt defines.
use Rattle.std.specs.Prelude.{ℕ, List}
use Rattle.text.specs.Reader.{Local, Firm}
use Rattle.lexical.proofs.Lexical.{locals, firms}
use Rattle.lines.proofs.Lines.{line_laws, array_laws, width-local, width-firm, width-grows}
use Rattle.header.specs.Header.{rest, header}

-- ---- laws

module _ (name : List ℕ) (w h : ℕ) where
  pub rest-local : Local (rest name w h)
  unfolding rest
  rest-local = search (locals, line_laws, array_laws) depth 40 fits 10000

  pub rest-firm : Firm (rest name w h)
  unfolding rest
  rest-firm = search (firms, line_laws, array_laws) depth 50 fits 20000

module _ (limit : ℕ) where
  pub header-local : Local (header limit)
  unfolding header
  header-local = search (locals, line_laws, width-local, rest-local) depth 40 fits 10000

  pub header-firm : Firm (header limit)
  unfolding header
  header-firm = search (firms, line_laws, width-local, width-firm, width-grows, rest-local, rest-firm) depth 50 fits 20000
