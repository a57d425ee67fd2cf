-- The definitions of `refusals`, by module.
pub mod Terms
pub mod Refusals
