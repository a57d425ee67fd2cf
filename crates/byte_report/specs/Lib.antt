-- The definitions of `byte_report` and examples of them, by module.
pub mod Next
