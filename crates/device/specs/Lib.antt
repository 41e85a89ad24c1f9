pub mod Map
pub mod State
