pub mod Worst
pub mod Ends
pub mod Arrivals
pub mod inner
