pub mod Kept
pub mod Driven
pub mod Called
pub mod Calls
pub mod Looked
pub mod Paged
pub mod Replied
pub mod Judged
