pub mod NoBuffers
pub mod OneEnd
pub mod Rows
