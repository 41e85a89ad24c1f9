pub mod Conditions
pub mod Returned
pub mod Seen
