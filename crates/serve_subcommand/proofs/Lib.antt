pub mod Ended
pub mod Over
