pub mod Captures
pub mod Nine
pub mod ReadBack
pub mod Repeats
pub mod Returned
pub mod Sentences
pub mod Written
