pub mod Decimal
pub mod Number
pub mod Lines
pub mod Outcome
pub mod Bounds
pub mod Texts
pub mod Batched
pub mod Printed
