-- The theorems of `body` and what its proofs share, by module.
pub mod Data
pub mod Laws
