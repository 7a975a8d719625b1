-- Where the guess of a square root begins.
pub mod Squares
