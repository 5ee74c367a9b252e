pub mod Layouts
pub mod Containers
pub mod Formats
pub mod Cleaning
