-- What only contracts of inner functions cite: the rows that sums over periods run over, and powers of two by column.
pub mod Rows
pub mod Powers
pub mod Exponents
