pub mod Example
pub mod IndexKind
pub mod ParityKind
pub mod Remainders
pub mod Residue
pub mod ResidueLaws
pub mod Rest
pub mod Tables
