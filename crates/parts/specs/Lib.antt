-- What only the contracts of the C interface cite: what the decomposition leaves in the numbers and slices lent to it.
pub mod Jacobi
