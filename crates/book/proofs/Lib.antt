mod Admitted
mod Asked
mod Below
mod Conversions
mod Drawn
mod Posts
mod Settled
mod Splits
