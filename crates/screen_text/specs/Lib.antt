pub mod Bytes
pub mod Screens
pub mod Reading
pub mod Escapes
pub mod Blocks
pub mod Headings
