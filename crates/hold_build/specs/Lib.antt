pub mod Listing
pub mod Pins
pub mod Arcs
pub mod NetlistGraph
pub mod Faults
pub mod inner
