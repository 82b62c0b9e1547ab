pub mod Table
pub mod Effect
