pub mod Halving
pub mod Ordinals
pub mod Members
