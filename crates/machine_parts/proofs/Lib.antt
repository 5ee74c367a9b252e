pub mod Takes
pub mod Shapes
pub mod Places
