-- The definitions of `places`, by module.
pub mod Terms
pub mod Places
pub mod Savable
pub mod Earliest
