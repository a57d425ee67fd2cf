-- The definitions of `grammar`, by module.
pub mod Lang
pub mod Grammar
pub mod Devices
