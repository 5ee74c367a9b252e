pub mod Searching
pub mod Pieces
pub mod Beside
pub mod Behaves
pub mod Rows
pub mod Requests
pub mod Short
pub mod Moved
