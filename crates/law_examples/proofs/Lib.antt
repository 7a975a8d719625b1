-- The power-of-two law and the law of prices at numbers.
pub mod Inputs
pub mod Pairs
pub mod Covariances
pub mod Means
pub mod PriceInputs
pub mod Prices
