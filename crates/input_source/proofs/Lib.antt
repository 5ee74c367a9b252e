pub mod Scans
pub mod WordLaw
pub mod Copies
pub mod Placings
pub mod Ranges
