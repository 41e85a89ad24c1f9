pub mod Meeting
pub mod Scanning
