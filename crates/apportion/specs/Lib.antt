pub mod Accounts
pub mod Examples
pub mod Laws
pub mod Places
pub mod Refusals
pub mod Splits
pub mod Ties
