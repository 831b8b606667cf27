mod Cells
mod Opening
mod Posting
