pub mod Between
pub mod Numbers
