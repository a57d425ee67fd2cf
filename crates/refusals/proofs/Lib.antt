-- The theorems of `refusals` and their lemmas, by module.
pub mod Stages
pub mod Integers
pub mod Lines
pub mod HeaderRows
pub mod HotspotRows
pub mod ArrayRow
pub mod Ends
pub mod DataRows
pub mod Table
pub mod Calls
pub mod CallRows
pub mod Stored
pub mod Refusals
pub mod Examples
