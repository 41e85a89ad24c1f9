pub mod Cases
pub mod Computing
pub mod Sums
