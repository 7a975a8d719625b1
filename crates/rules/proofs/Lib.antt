-- Laws of the rules that the code and the laws of the calls share.
pub mod Passed
pub mod Firsts
pub mod Shapes
pub mod Opened
pub mod AdjustedCall
pub mod SameReturns
pub mod Constant
pub mod GramSymmetric
