pub mod Modes
pub mod Words
pub mod Scanned
pub mod Standing
pub mod Spaced
