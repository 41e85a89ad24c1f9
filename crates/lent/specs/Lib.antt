pub mod Fed
pub mod Lent
pub mod Sums
