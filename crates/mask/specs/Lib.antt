-- The definitions of `mask`, by module.
pub mod Fault
