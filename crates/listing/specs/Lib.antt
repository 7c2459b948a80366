pub mod Held
pub mod Work
