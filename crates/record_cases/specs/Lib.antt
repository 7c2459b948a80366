pub mod Records
pub mod Tested
