-- The laws that the proofs of the Stein means share.
pub mod Gathered
pub mod BayesSteinLists
pub mod Settled
