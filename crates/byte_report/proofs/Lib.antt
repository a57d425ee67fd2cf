-- The theorems of `byte_report` and what its proofs share, by module.
pub mod Examples
