pub mod Bound
pub mod Cases
pub mod Computing
pub mod Edges
pub mod Shown
