pub mod Prime
pub mod Ring
