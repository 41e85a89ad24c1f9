pub mod Examples
pub mod Halts
pub mod Leaping
pub mod Listed
pub mod Steps
