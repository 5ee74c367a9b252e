pub mod Values
pub mod Conversions
pub mod Expansions
pub mod ExpansionLaw
pub mod Pictures
pub mod Spellings
pub mod Joined
