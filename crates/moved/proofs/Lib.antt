mod Table
mod Again
pub mod Moved
