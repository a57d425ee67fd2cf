-- The definitions of `header_text`, by module.
pub mod HeaderText
