pub mod Digits
pub mod Base
pub mod Numbers
pub mod Conversion
pub mod Picture
