pub mod Refusal
pub mod Access
pub mod Table
