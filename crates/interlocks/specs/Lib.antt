pub mod Interlock
pub mod Scan
pub mod Together
