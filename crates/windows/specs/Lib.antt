pub mod Table
pub mod Private
