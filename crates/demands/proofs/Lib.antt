pub mod Acts
pub mod Contracts
pub mod Ends
pub mod Fates
pub mod Offsets
pub mod Returned
pub mod Theorems
