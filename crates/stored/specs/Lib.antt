-- The definitions of `stored`, by module.
pub mod Record
pub mod Alike
pub mod Words
