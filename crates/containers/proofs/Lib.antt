pub mod Orders
pub mod Places
pub mod Returning
pub mod Texts
