pub mod Ids
pub mod Table
pub mod Private
