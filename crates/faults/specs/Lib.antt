-- The definitions of `faults`, by module.
pub mod Terms
