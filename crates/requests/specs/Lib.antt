pub mod Requests
pub mod Calls
pub mod Opened
