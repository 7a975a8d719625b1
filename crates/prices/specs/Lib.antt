-- What only contracts of inner functions cite: returns of stored prices, and prices that one look at each accepts.
pub mod Stored
pub mod Ordinary
