pub mod Appending
mod Numbers
