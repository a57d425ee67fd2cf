-- The definitions of `data_text`, by module.
pub mod Packed
pub mod DataText
