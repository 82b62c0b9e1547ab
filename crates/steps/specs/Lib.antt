pub mod Decide
pub mod Private
