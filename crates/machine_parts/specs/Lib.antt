pub mod Whole
pub mod Row
