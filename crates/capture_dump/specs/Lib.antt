pub mod Dump
pub mod Pieces
pub mod Private
pub mod Examples
