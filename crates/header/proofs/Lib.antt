-- The theorems of `header` and what its proofs share, by module.
pub mod Examples
pub mod Header
pub mod Parts
