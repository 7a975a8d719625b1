-- What only contracts of inner functions cite: the two Stein means in parts.
pub mod Held
pub mod Gather
pub mod Stein
