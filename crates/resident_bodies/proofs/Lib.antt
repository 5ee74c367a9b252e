pub mod Words
pub mod Rows
pub mod Moved
pub mod Bodies
pub mod Controls
pub mod Items
pub mod Ending
pub mod Gaps
