-- The definitions of `hex`, by module.
pub mod Hex
pub mod Table
