pub mod Places
pub mod Tests
mod Refused
mod Walks
pub mod Frames
mod Back
mod Telling
mod Writing
mod Opening
mod Solving
pub mod Verdicts
mod Always
pub mod Shown
pub mod Judging
mod Limits
mod Outcomes
mod Concluding
mod Split
mod Written
pub mod Ranges
pub mod Remaining
mod Multipliers
mod Copies
mod Worked
mod Restated
