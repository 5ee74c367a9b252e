pub mod Nearness
pub mod Sizes
