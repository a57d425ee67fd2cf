-- The theorems of `faults` and their lemmas, by module.
pub mod Tokens
pub mod Faults
