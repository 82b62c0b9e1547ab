pub mod Moved
mod Shown
mod Which
