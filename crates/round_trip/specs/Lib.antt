-- The definitions of `round_trip`, by module.
pub mod Terms
pub mod RoundTrip
