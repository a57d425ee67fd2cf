-- The laws of `leading`, by module.
pub mod Lines
