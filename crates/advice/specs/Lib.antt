pub mod Choice
pub mod Large
pub mod Near
