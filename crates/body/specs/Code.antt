-- Parts of the definitions as the code reads them.
use Rattle.text.specs.Reader.{Reader, ◌>>◌}
use Rattle.text.specs.Leaf.{eot}
use Rattle.lexical.specs.Lexical.{is_loose, skip, byte, is}

-- between two data bytes: a comma, after loose space
abbrev pub separator : Reader (Unit {0})
separator = skip is_loose >> byte 6 (is 44)

abbrev pub ended : Reader (Unit {0})
ended = eot 8
