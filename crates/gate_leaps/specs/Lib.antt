pub mod Leap
