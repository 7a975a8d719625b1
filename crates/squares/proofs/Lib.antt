-- What the proofs of the three functions share, and a law that the crate above cites.
pub mod Arms
pub mod Number
