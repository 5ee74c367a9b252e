mod Over
mod Ran
