pub mod Ready
pub mod Runs
pub mod Theorems
pub mod Totals
pub mod Windows
pub mod Words
pub mod Worked
