pub mod Cutting
pub mod States
pub mod Operations
pub mod Claims
