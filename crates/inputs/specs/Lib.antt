-- What only contracts of inner functions cite: what the checks of a call answer.
pub mod Checks
pub mod Opening
