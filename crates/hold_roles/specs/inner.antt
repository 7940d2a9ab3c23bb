pub mod NamePlaces
pub mod Cells
pub mod Slots
pub mod Marks
