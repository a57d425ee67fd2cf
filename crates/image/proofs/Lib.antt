-- The theorems of `image` and what its proofs share, by module.
pub mod Limited
pub mod Whole
pub mod Limit
