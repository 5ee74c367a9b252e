pub mod FileBytes
pub mod Done
pub mod Begun
pub mod Asking
pub mod Trying
pub mod Uses
