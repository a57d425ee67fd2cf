-- The theorems of `writer` and what its proofs share, by module.
pub mod Examples
pub mod Size
pub mod Laws
