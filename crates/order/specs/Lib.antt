pub mod Order
pub mod Cells
pub mod Viewed
pub mod Places
pub mod Examples
