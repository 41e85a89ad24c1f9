pub mod Behind
pub mod Figures
