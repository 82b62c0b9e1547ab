pub mod Lines
mod Settle
pub mod Moved
