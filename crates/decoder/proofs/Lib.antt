-- What the proofs of `decoder` share.
pub mod Steps
