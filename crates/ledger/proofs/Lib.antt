pub mod Columns
pub mod Entries
pub mod Conserving
pub mod Meanings
pub mod Rises
pub mod Walk
pub mod Reading
mod Widths
