pub mod Cells
pub mod Sheet
