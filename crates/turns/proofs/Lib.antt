mod Route
mod Sources
