-- The definitions of `error`, by module.
pub mod Error
