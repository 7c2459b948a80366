pub mod Bound
pub mod Listed
