-- The theorems of `grammar` and their lemmas, by module.
pub mod Bind
pub mod Tests
pub mod Fits
pub mod Pieces
pub mod Lines
pub mod Headers
pub mod Exact
pub mod Flat
pub mod Sample
