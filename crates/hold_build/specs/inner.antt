pub mod Insts
pub mod Sorts
pub mod Sinks
pub mod CellArcs
pub mod WireArcs
pub mod Names
