pub mod Batch
pub mod Served
