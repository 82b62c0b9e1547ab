pub mod Walking
pub mod Resting
pub mod Whole
pub mod Places
pub mod From
