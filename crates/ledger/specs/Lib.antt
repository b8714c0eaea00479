pub mod Apart
pub mod Entries
pub mod Listed
pub mod Marked
pub mod Waiting
