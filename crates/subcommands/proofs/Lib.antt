pub mod Building
pub mod Rewriting
pub mod Told
pub mod Printing
pub mod Refusing
