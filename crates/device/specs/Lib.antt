pub mod Device
pub mod Step
pub mod Private
