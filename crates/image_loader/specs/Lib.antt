pub mod Files
pub mod Checks
