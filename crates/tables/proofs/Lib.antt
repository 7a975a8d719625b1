-- The laws that the proofs of the sums share.
pub mod Formed
pub mod Sums
pub mod OverPeriods
pub mod Mirror
pub mod Halves
pub mod Exponents
pub mod Factors
