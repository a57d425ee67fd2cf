-- What the proofs of `printing` share, by module.
pub mod Laws
