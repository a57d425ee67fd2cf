-- The theorems of `lexical` and what its proofs share, by module.
pub mod Lexical
pub mod TokenLaws
pub mod Laws
pub mod Tokens
