pub mod Adding
pub mod Complement
pub mod Reading
pub mod Theorems
