pub mod Reversed
mod Room
mod Standing
