pub mod Answers
pub mod Sequences
pub mod Classes
pub mod Machine
