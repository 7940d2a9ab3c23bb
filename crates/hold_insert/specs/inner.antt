pub mod Used
pub mod Sources
pub mod Grown
