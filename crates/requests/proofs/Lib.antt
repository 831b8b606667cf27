pub mod Parking
mod Sequences
