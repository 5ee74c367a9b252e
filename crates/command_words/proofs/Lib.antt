mod Adding
mod Rows
mod Reporting
