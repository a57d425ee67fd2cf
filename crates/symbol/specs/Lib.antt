-- The definitions of `symbol`, by module.
pub mod Symbol
