mod Cases
mod Checking
pub mod Closing
mod Asked
mod Made
mod Opened
mod Rows
mod Stating
