pub mod Inputs
pub mod Sources
pub mod Steps
pub mod Orders
