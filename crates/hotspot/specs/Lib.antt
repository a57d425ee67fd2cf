-- The definitions of `hotspot`, by module.
pub mod Hotspot
