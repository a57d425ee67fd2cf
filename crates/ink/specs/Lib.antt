-- The definitions of `ink`, by module.
pub mod Ink
