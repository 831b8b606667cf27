pub mod Held
pub mod Records
