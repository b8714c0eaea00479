pub mod Cut
pub mod Headings
pub mod Rejoined
