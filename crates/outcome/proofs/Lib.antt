pub mod Outcome
pub mod Refused
pub mod Batch
