-- The theorems of `hexadecimal` and what its proofs share, by module.
pub mod HexLaws
pub mod Hex
