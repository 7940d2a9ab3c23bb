pub mod Times
pub mod Keywords
pub mod Shapes
pub mod Settings
pub mod Entries
pub mod Range
pub mod inner
