pub mod CommandLine
pub mod Typed
pub mod Refused
