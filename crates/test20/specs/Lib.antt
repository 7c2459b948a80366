pub mod Raw
pub mod Zeros
