pub mod Befores
pub mod Places
pub mod Enclosures
pub mod Standings
pub mod Joining
pub mod Rereading
pub mod Colons
