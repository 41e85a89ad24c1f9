pub mod Cases
pub mod Computing
pub mod Keeping
pub mod Lists
pub mod Overflows
pub mod Refused
pub mod Slips
pub mod Whole
