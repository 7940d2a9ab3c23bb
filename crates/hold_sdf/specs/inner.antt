pub mod Adds
pub mod Hulls
pub mod Steps
pub mod Shown
