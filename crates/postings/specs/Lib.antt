pub mod Drafts
pub mod Laws
pub mod Posts
pub mod Sweeps
