pub mod Ascii
pub mod Tokens
pub mod Buffers
pub mod Examples
