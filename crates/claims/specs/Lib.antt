-- The definitions of `claims`, by module.
pub mod Terms
pub mod Claims
pub mod Masks
pub mod Steps
pub mod Written
pub mod Program
