-- How long a header's text is at most.
use Rattle.std.specs.Prelude.{ℕ, ◌≤◌, List, [], ◌++◌, length, ℤ}
use Rattle.std.proofs.Common.{arith, length-append}
use Rattle.std.proofs.Math.Option.{Option, none, some}
use Rattle.text.specs.Ascii.{ascii}
use Rattle.print.specs.Output.{joined}
use Rattle.print.specs.Decimal.{decimal, signed}
use Rattle.print.proofs.Decimal.{digits-short, signed-short}
use Rattle.header_text.specs.HeaderText.{start_text, define_text, spot_text, array_text, head_text}

field-short : (name ending n : List ℕ) → length name ≤ 250 → length ending ≤ 7 → length n ≤ 21 → length (define_text name ending n) ≤ 288
unfolding joined
field-short name ending n a b c =
    omega (arith, length-append (start_text name ending) (n ++ (ascii "\n" ++ [])), length-append n (ascii "\n" ++ []), length-append (ascii "#define ") (name ++ (ending ++ (ascii " " ++ []))), length-append name (ending ++ (ascii " " ++ [])), length-append ending (ascii " " ++ []))

spot-short : (name : List ℕ) (hot : Option (ℤ × ℤ)) → length name ≤ 250 → length (spot_text name hot) ≤ 576
unfolding joined
spot-short name none h = omega arith
spot-short name (some (x, y)) h =
    omega (arith, length-append (define_text name (ascii "_x_hot") (signed x)) (define_text name (ascii "_y_hot") (signed y) ++ []), length-append (define_text name (ascii "_y_hot") (signed y)) [], field-short name (ascii "_x_hot") (signed x) h (omega arith) (signed-short x), field-short name (ascii "_y_hot") (signed y) h (omega arith) (signed-short y))

array-short : (name : List ℕ) → length name ≤ 250 → length (array_text name) ≤ 288
unfolding joined
array-short name h = omega (arith, length-append (ascii "static unsigned char ") (name ++ (ascii "_bits[] = {" ++ [])), length-append name (ascii "_bits[] = {" ++ []))

pub head-short : (name : List ℕ) (w h : ℕ) (hot : Option (ℤ × ℤ)) → length name ≤ 250 → length (head_text name w h hot) ≤ 1536
unfolding head_text joined
head-short name w h hot l =
    omega (
      arith,
      length-append (define_text name (ascii "_width") (decimal w)) (define_text name (ascii "_height") (decimal h) ++ (spot_text name hot ++ (array_text name ++ []))),
      length-append (define_text name (ascii "_height") (decimal h)) (spot_text name hot ++ (array_text name ++ [])),
      length-append (spot_text name hot) (array_text name ++ []),
      length-append (array_text name) [],
      field-short name (ascii "_width") (decimal w) l (omega arith) (omega (arith, digits-short 20 w)),
      field-short name (ascii "_height") (decimal h) l (omega arith) (omega (arith, digits-short 20 h)),
      spot-short name hot l,
      array-short name l,
    )
