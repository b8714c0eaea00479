pub mod Parities
pub mod Narrow
