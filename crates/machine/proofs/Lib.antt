pub mod Ran
pub mod Passing
pub mod Kept
pub mod Stepped
pub mod Places
pub mod Lending
