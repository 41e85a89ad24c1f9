pub mod Figures
pub mod Places
pub mod Prints
pub mod Sizes
pub mod Theorems
