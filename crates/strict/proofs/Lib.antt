pub mod Searching
pub mod Rows
pub mod Numbers
