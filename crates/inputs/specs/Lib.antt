pub mod Case
pub mod Plants
