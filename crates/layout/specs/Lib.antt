pub mod Answers
pub mod Running
pub mod Kept
pub mod Ready
