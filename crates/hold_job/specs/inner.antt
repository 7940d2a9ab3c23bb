pub mod Told
pub mod Forms
pub mod Texts
pub mod Listed
pub mod Ends
pub mod Parts
