pub mod Cells
pub mod Covered
pub mod Rule
