pub mod Code
pub mod Laying
pub mod Definitions
