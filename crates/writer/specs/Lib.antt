-- The definitions of `writer`, by module.
pub mod Written
pub mod Writing
