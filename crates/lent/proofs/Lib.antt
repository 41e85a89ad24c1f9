pub mod Runs
pub mod Theorems
pub mod Worked
