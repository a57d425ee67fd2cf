-- The lines of a header: an integer's, one whose symbol is known, the width line, the line that opens the array.
use Rattle.std.specs.Prelude.{ℕ, ◌+◌, List, eqb, ℤ, Result as Answer}
use Rattle.std.proofs.Math.Option.{Option, none, some}
use Rattle.text.specs.Ascii.{ascii}
use Rattle.text.specs.Place.{pick}
use Rattle.text.specs.Reader.{Reader, ◌>>=◌, ◌>>◌}
use Rattle.text.specs.Leaf.{give, want, need, fork}
use Rattle.lexical.specs.Lexical.{is_loose, fixed, gap, line_end}
use Rattle.lexical.specs.Token.{token}
use Rattle.integer.specs.declared.Fault.{Fault}
use Rattle.integer.specs.Decimal.{parse_u32, parse_i32, value_in, fault_in}
use Rattle.symbol.specs.Symbol.{hash_define, end_width, before}

-- an integer token has at most so many bytes
abbrev pub token_limit : ℕ
token_limit = 11

-- a gap, an integer token, the line's end; then f reads the token
abbrev pub value : {A : Type 0} → ℕ → (List ℕ → Reader A) → Reader A
value c f = gap c >> token is_loose c token_limit >>= λ w. line_end c >> f w

-- an integer of 32 bits: where the token is none, c and the number of its fault are told
abbrev pub parsed : {A : Type 0} → ℕ → Answer A Fault → Reader A
parsed c r = need (c + fault_in r) (value_in r)

abbrev pub unsigned : ℕ → List ℕ → Reader ℕ
unsigned c w = parsed c (parse_u32 w)

abbrev pub signed : ℕ → List ℕ → Reader ℤ
signed c w = parsed c (parse_i32 w)

unfoldable pub positive : ℕ → Option ℕ
positive n = pick (eqb n 0) none (some n)

-- a side: such an integer, and not zero
abbrev pub side : ℕ → ℕ → List ℕ → Reader ℕ
side c d w = unsigned c w >>= λ v. need d (positive v)

-- a define line whose symbol is known: a name and an ending
abbrev pub line : {A : Type 0} → ℕ → List ℕ → List ℕ → (List ℕ → Reader A) → Reader A
line c name z f = fixed c hash_define >> gap c >> fixed c name >> fixed c z >> value c f

-- what precedes its value
unfoldable pub symbol : ℕ → List ℕ → List ℕ → Reader (Unit {0})
symbol c name z = fixed c hash_define >> gap c >> fixed c name >> fixed c z

-- the whole line: its token
unfoldable pub define_line : ℕ → List ℕ → List ℕ → Reader (List ℕ)
define_line c name z = symbol c name z >> value c give

-- the width line, at most limit bytes in its symbol: the name and the width
unfoldable pub width_line : ℕ → Reader (List ℕ × ℕ)
width_line limit =
    fixed 1 hash_define >> gap 1 >> token is_loose 1 limit >>= λ s. want 1 (before end_width s) >>= λ name.
    value 1 (λ w. unsigned 110 w >>= λ v. need 21 (positive v) >>= λ n. give (name, n))

-- `unsigned`, gap, `char`
abbrev pub unsigned_char : ℕ → Reader (Unit {0})
unsigned_char c = fixed c (ascii "unsigned") >> gap c >> fixed c (ascii "char")

-- `char`, or that
unfoldable pub element : ℕ → Reader (Unit {0})
element c = fork c 99 (fixed c (ascii "char")) 117 (unsigned_char c)

-- the line that opens the array
unfoldable pub array_line : ℕ → List ℕ → Reader (Unit {0})
array_line c name =
    fixed c (ascii "static") >> gap c >> element c >> gap c >> fixed c name >> fixed c (ascii "_bits[]") >> gap c >> fixed c (ascii "=") >> gap c >> fixed c (ascii "{")
