pub mod Bools
pub mod Headers
pub mod Table
