-- The definitions of `printing`.
pub mod Printed
