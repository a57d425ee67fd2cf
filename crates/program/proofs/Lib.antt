-- What the proofs of `program` share, by module.
pub mod Laws
