-- Worked examples of `xbm_write`, computed from the definitions: the rows of one table, by one claim.
use Rattle.std.specs.Prelude.{ℕ, List}

-- what is handed back: a result, a length, the output
pub record Numbers : Type 0 where
  pub result : ℕ
  pub length : ℕ
  pub output : List ℕ
