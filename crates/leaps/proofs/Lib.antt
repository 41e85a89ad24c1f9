pub mod Leaps
pub mod Theorems
pub mod Worked
