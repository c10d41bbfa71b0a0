pub mod Cases
pub mod Enough
pub mod Answered
pub mod Digits
pub mod Putting
