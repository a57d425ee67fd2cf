-- The theorems of `report`, by module.
pub mod Examples
