-- The definitions of `program`, by module.
pub mod Program
