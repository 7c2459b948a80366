pub mod Views
pub mod Zeros
