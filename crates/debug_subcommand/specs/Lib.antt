pub mod Traced
pub mod Files
