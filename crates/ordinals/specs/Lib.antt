pub mod Ordinals
