pub mod Line
pub mod Block
