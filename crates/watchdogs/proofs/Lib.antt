pub mod Figures
pub mod Leaps
