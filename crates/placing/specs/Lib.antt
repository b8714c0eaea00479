pub mod Answers
pub mod Columns
pub mod Faults
pub mod Input
pub mod Numbers
pub mod Terms
