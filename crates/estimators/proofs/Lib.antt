-- The laws that the proofs of the calls share.
pub mod Estimated
pub mod LedoitWolfCall
pub mod OfGiven
pub mod MeanCalls
pub mod Refusing
