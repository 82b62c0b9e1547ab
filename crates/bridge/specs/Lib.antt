pub mod Cells
pub mod Sources
pub mod Changes
pub mod Moved
pub mod Private
