-- What only the contracts of the C interface cite: what each export leaves in the numbers and slices lent to it.
pub mod Settings
pub mod Report
pub mod Calls
pub mod Returns
pub mod Record
pub mod Questions
