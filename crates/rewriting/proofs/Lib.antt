-- The theorems of `rewriting` and what its proofs share, by module.
pub mod Sizes
pub mod Input
