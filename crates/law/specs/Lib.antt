-- Demand 3 and document 01, "Scaling ranges"; document 02, "Paper 4".
pub mod Law
pub mod Prices
