-- What the proofs of `ink` share, by module.
pub mod Ink
