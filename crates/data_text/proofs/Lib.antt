-- The theorems of `data_text` and what its proofs share, by module.
pub mod Bits
pub mod Size
pub mod Packing
pub mod Putting
