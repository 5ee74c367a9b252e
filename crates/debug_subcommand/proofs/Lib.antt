mod Debugging
mod Over
