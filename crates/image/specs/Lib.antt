-- The definitions of `image`, by module.
pub mod Reading
pub mod Limited
