pub mod State
pub mod Tick
pub mod InPlace
pub mod Answer
pub mod Met
pub mod Onward
pub mod Entering
pub mod Registers
