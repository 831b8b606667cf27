pub mod Bounds
pub mod Codes
pub mod HalfUp
pub mod Lossless
pub mod Names
