-- The theorems of `rows` and what its proofs share, by module.
pub mod RowsLaws
pub mod Group
pub mod Going
