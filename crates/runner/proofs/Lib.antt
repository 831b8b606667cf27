mod Joining
mod Listing
mod Steps
mod Reading
