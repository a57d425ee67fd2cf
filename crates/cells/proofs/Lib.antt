-- The theorems of `cells` and what its proofs share, by module.
pub mod Kept
pub mod Stores
pub mod Paint
