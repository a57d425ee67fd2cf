-- The definitions of `body`, by module.
pub mod Data
pub mod Code
