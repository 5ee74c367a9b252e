pub mod Lines
pub mod Debugged
