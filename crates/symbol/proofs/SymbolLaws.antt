-- The theorems about what specs/Symbol.antt defines.
use Rattle.text.specs.Reader.{Local, Mild}
use Rattle.lexical.proofs.Lexical.{locals, milds, gap-local, gap-mild, leading-local, leading-mild}
use Rattle.symbol.specs.Symbol.{opening}

-- ---- laws

pub opening-local : Local opening
unfolding opening
opening-local = search (locals, leading-local, gap-local) depth 20

pub opening-mild : Mild opening
unfolding opening
opening-mild = search (milds, locals, leading-local, leading-mild, gap-local, gap-mild) depth 20
