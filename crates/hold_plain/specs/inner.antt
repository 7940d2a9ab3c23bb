pub mod Keys
pub mod Served
pub mod Problem
pub mod Limits
pub mod RegisterPins
pub mod Tested
pub mod Tables
pub mod Known
