-- The definitions of `rows`, by module.
pub mod Rows
pub mod Quick
