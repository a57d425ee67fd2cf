-- The definitions of `report` and examples of them, by module.
pub mod Report
