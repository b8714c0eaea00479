pub mod Counts
mod Taken
