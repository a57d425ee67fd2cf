-- The theorems of `round_trip` and their lemmas, by module.
pub mod Words
pub mod Texts
pub mod Answers
pub mod Back
pub mod LaidOut
pub mod OneText
pub mod SameAgain
pub mod Rewritten
pub mod RoundTrip
pub mod Vacuous
