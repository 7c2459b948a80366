pub mod Step
pub mod Opened
