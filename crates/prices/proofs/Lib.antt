-- Laws of prices that stand row by row, and of ordinary prices.
pub mod Stored
pub mod Searches
pub mod Quotients
pub mod OrdinaryPrices
pub mod Shapes
