-- What the proofs of `input` use, by module.
pub mod Laws
