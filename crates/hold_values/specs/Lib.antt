pub mod Defaults
pub mod Given
pub mod Values
pub mod inner
