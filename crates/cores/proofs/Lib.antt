mod Four
mod Own
mod Moved
