pub mod Told
pub mod Whole
pub mod Shelf
pub mod Memory
pub mod FirstContent
pub mod Host
pub mod inner
