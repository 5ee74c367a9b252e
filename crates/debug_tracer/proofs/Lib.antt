pub mod Sending
pub mod Words
