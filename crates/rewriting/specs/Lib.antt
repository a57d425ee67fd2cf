-- The definitions of `rewriting`, by module.
pub mod Rewriting
pub mod Program
