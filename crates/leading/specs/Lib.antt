-- The definitions of `leading`, by module.
pub mod Line
