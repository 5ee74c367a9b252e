pub mod Progress
pub mod Screens
