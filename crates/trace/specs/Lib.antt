pub mod Leaping
pub mod Passed
pub mod Run
pub mod Sound
pub mod Turns
