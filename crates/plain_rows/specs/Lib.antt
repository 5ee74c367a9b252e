pub mod Control
pub mod Stack
pub mod Cell
pub mod Double
pub mod MemoryRows
pub mod Table
pub mod Plain
