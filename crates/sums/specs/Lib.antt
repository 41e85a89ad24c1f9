pub mod Fed
pub mod Fresh
pub mod Sums
