pub mod Added
pub mod Evidence
pub mod Labels
pub mod Run
pub mod Transcribed
