pub mod Buffers
pub mod Tokens
