-- The theorems about what specs/Lines.antt defines.
use Rattle.std.specs.Prelude.{ℕ, List}
use Rattle.text.specs.Reader.{Local, Firm, Mild, Grows}
use Rattle.lexical.proofs.Lexical.{locals, milds, firms, gap-local, gap-mild, line_end-local, line_end-mild, line_end-firm, line_end-grows, leading-local, leading-mild}
use Rattle.lexical.proofs.TokenLaws.{token-local, token-mild}
use Rattle.lines.specs.Lines.{width_line, element, array_line}

-- ---- laws

pub ruleset line_laws = (gap-local, gap-mild, line_end-local, line_end-mild, line_end-firm, line_end-grows, token-local, token-mild, leading-local, leading-mild)

module _ (limit : ℕ) where
  pub width-local : Local (width_line limit)
  unfolding width_line
  width-local = search (locals, line_laws) depth 30 fits 3000

  pub width-firm : Firm (width_line limit)
  unfolding width_line
  width-firm = search (firms, line_laws) depth 40 fits 10000

  pub width-grows : Grows (width_line limit)
  unfolding width_line
  width-grows = search (firms, line_laws) depth 40 fits 10000

module _ (c : ℕ) where
  pub element-local : Local (element c)
  unfolding element
  element-local = search (locals, line_laws) depth 12

  pub element-mild : Mild (element c)
  unfolding element
  element-mild = search (milds, locals, line_laws) depth 12

  pub array-local : (name : List ℕ) → Local (array_line c name)
  unfolding array_line
  array-local name = search (locals, line_laws, element-local) depth 30 fits 3000

  pub array-firm : (name : List ℕ) → Firm (array_line c name)
  unfolding array_line
  array-firm name = search (firms, line_laws, element-local, element-mild) depth 40 fits 10000

  pub array-grows : (name : List ℕ) → Grows (array_line c name)
  unfolding array_line
  array-grows name = search (firms, line_laws, element-local) depth 40 fits 10000

pub ruleset array_laws = (array-local, array-firm, array-grows)
