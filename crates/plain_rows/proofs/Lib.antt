pub mod Trimmed
pub mod Tables
pub mod Plain
pub mod Moving
