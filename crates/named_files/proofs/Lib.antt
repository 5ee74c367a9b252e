mod Copying
pub mod Making
