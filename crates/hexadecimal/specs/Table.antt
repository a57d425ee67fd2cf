-- What a table of digits holds. Apart from Hex, which the type itself names.
use Prim.Native.Nat.{ℕ}
use Rattle.std.specs.Prelude.{List}
use Rattle.hexadecimal.specs.declared.HexTable.{HexTable}

-- its values, one for each byte
abbrev pub table_of : HexTable → List ℕ
table_of t = t.values
