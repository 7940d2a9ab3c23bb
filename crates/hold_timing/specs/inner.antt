pub mod Pass
pub mod Required
pub mod Search
