-- The laws that the proofs of the matrices share, and the theorems about the decomposition (Sweeps, Rotations, LargerLimit, Vectors, Symmetry).
-- stored matrices, their sums, and searches through them
pub mod SumOver
pub mod Folds
pub mod Stored
pub mod FilledRows
pub mod First
pub mod Alike
pub mod Finite
pub mod OfStored
pub mod ByRows
pub mod Largest
-- what the sweeps begin with
pub mod Identity
pub mod Quotients
-- one rotation; counts of sweeps and rotations
pub mod Rotated
pub mod RotateSteps
pub mod Lines
pub mod TurnedRows
pub mod Counts
pub mod Sweeps
pub mod Rotations
pub mod LargerLimit
-- the size of the vectors
pub mod Squares
pub mod Angle
pub mod Turn
pub mod Rows
pub mod Vectors
-- a rotation with V stored column by column and A symmetric
pub mod Flip
pub mod Symmetry
-- lending parts of arrays of the largest size
pub mod Lent
