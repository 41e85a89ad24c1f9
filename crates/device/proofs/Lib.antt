pub mod Figures
pub mod Found
