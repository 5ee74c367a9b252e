pub mod Serving
pub mod Files
