pub mod Made
pub mod Wide
