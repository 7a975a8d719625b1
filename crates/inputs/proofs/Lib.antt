-- What the code of the calls shares.
pub mod Refused
pub mod Tables
