pub mod Cells
pub mod PinUses
pub mod Keys
pub mod Served
pub mod Problem
pub mod Limits
pub mod inner
