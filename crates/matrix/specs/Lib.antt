-- Document 01, "Records", "Float leaves" (sums over matrices), "Causes" (searches) and "Jacobi".
pub mod Limits
pub mod Matrix
pub mod Rotation
pub mod Jacobi
pub mod Inner
pub mod Places
