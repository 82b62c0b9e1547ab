pub mod LowestBit
pub mod Rest
mod Written
