pub mod Answering
pub mod Before
pub mod Digits
pub mod Filling
pub mod Firsts
pub mod Opening
