pub mod Corners
pub mod Counted
pub mod PathEnds
