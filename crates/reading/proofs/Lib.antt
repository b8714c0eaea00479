pub mod Bounds
pub mod Exact
pub mod Fairness
pub mod Loop
pub mod Printed
pub mod Stops
