pub mod Else
pub mod Places
pub mod Entries
pub mod Values
pub mod Told
pub mod inner
