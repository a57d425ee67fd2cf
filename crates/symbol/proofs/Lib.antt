-- The theorems of `symbol` and what its proofs share, by module.
pub mod SymbolLaws
pub mod Ends
pub mod Taken
pub mod Stored
pub mod Laws
