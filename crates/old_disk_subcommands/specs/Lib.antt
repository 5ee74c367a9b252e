pub mod Guessed
pub mod Unpacked
