-- The theorems of `stored`, by module.
pub mod Alike
