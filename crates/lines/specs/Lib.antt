-- The definitions of `lines`, by module.
pub mod Lines
