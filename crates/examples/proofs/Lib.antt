-- The definitions at numbers.
pub mod Evaluated
pub mod Cases
pub mod Prices
pub mod Sweeps
