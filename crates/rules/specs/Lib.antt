-- Document 01: its opening paragraph, "Records", "Estimators", "Causes" and "How tight", a; document 02, "Paper 1" and "Paper 4".
pub mod Refusals
pub mod Sample
pub mod Weighted
pub mod Semi
pub mod Given
pub mod LedoitWolf
pub mod Settings
pub mod Adjusted
pub mod Moments
pub mod Shrinking
pub mod JamesStein
pub mod BayesStein
pub mod Order
pub mod Shapes
pub mod Calls
pub mod Prices
