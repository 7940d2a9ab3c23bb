pub mod Front
pub mod Answer
