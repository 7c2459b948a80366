pub mod Sequence
pub mod Opening
