pub mod Putting
pub mod InLine
pub mod Planning
