mod Drawing
mod Pairing
mod Posting
mod Splitting
mod Sweeping
pub mod Valid
