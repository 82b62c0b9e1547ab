pub mod First
pub mod Groups
pub mod Found
