-- The definitions of `cells`, by module.
pub mod Cells
pub mod Stores
