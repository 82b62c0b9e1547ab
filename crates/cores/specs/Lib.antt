pub mod Cells
pub mod Core
pub mod Moved
