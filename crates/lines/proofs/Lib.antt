-- The theorems of `lines` and what its proofs share, by module.
pub mod Lines
