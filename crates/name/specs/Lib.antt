-- The definitions of `name`, by module.
pub mod Parted
