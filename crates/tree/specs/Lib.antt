pub mod Tree
pub mod Moved
pub mod Private
