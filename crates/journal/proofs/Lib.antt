pub mod Records
mod Rows
pub mod Reach
