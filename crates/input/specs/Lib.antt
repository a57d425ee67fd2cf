-- The definitions of `input`, by module.
pub mod Input
