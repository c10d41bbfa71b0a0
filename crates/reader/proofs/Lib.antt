pub mod Numbers
pub mod Roots
pub mod Passes
pub mod Judging
pub mod Lent
pub mod WithState
