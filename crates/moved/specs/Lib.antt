pub mod Table
pub mod Moved
