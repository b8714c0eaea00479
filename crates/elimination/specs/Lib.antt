pub mod Faults
pub mod Held
pub mod Refusals
pub mod Steps
pub mod Stating
pub mod Outcome
pub mod Working
pub mod Again
