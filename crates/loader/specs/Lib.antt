pub mod Loader
pub mod Memory
