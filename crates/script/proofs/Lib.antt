pub mod Counts
pub mod Rule
