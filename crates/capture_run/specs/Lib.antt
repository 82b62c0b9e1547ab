pub mod Run
pub mod Order
