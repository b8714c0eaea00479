pub mod Contents
pub mod Faults
pub mod Lent
pub mod Listing
pub mod Reading
pub mod Stored
pub mod Trials
pub mod Waits
