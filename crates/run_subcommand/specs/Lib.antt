pub mod Running
pub mod Files
