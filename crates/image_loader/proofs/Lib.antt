pub mod Tails
pub mod Openings
pub mod Sorts
pub mod Verdicts
pub mod Copies
pub mod Placing
