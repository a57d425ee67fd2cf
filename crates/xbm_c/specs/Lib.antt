-- The definitions of `xbm_c`, by module.
pub mod Told
pub mod Next
pub mod Write
pub mod Calls
pub mod Room
pub mod WriteExamples
