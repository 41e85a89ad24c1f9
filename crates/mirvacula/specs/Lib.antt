pub mod Converting
pub mod Exported
