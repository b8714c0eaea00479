pub mod Heading
pub mod Joined
pub mod Lines
pub mod Taken
