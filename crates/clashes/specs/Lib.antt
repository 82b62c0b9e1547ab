pub mod Clash
pub mod Private
