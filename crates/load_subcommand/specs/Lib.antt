pub mod Loads
pub mod Files
