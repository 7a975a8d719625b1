-- Laws of question files.
pub mod Left
pub mod Kept
pub mod Trips
pub mod Held
pub mod Writing
pub mod Contents
pub mod Fits
pub mod RoundTrips
