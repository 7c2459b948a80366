pub mod Reading
pub mod Admitted
