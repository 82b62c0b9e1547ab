pub mod Routes
pub mod Moved
pub mod Private
