pub mod Lines
pub mod Solved
pub mod Linear
pub mod Theorems
