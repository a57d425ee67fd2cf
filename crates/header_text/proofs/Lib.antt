-- The theorems of `header_text` and what its proofs share, by module.
pub mod Size
pub mod Laws
