pub mod Command
pub mod Tag
