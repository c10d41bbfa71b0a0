pub mod Padding
pub mod Planning
pub mod FirstMember
pub mod Widths
pub mod Plans
pub mod ByPlan
pub mod Rows
