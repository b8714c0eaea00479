pub mod Solver
pub mod Integers
pub mod PrimeKind
pub mod Ideals
