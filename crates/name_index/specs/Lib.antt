pub mod Watch
pub mod Slots
pub mod Index
pub mod Ranges
pub mod Passing
