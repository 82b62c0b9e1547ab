pub mod Cells
pub mod Sources
pub mod Changes
pub mod Moved
