pub mod Interval
pub mod Limits
pub mod NameBytes
pub mod Answers
pub mod Digits
pub mod inner
