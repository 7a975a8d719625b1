-- What only contracts of inner functions cite: the adjusted covariance in parts.
pub mod Estimated
