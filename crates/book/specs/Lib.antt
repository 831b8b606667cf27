pub mod Proposals
pub mod Slips
pub mod View
