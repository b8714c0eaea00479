pub mod Sweeps
pub mod Ops
pub mod Loads
pub mod Tables
