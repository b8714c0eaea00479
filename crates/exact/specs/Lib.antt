pub mod Answers
pub mod Faults
pub mod Fraction
pub mod Kind
