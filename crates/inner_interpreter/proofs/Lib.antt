pub mod Sending
pub mod Lining
pub mod Loading
pub mod Answering
pub mod Quiet
pub mod Stretched
pub mod Moving
pub mod Tracked
pub mod Running
pub mod Ended
pub mod Uniqueness
pub mod Shapes
pub mod Orderly
pub mod Requested
pub mod Ending
pub mod Faultless
mod HostCalls
pub mod Hosting
pub mod Slicing
mod Making
mod Givens
mod Tying
pub mod Places
pub mod Anywhere
