pub mod Columns
pub mod Entries
pub mod Held
pub mod Laws
pub mod Legs
pub mod Limits
pub mod Meaning
