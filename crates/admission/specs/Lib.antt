pub mod Refusals
pub mod Private
