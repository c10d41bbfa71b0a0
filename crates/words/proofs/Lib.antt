pub mod Bits
pub mod Fill
pub mod Loads
pub mod Padding
pub mod Stores
