-- The laws that the proofs of the covariances share.
pub mod LedoitWolf
pub mod Centered
pub mod Samples
pub mod Grams
pub mod WeightedMeans
