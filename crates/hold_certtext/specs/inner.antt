pub mod Words
pub mod Parsing
pub mod Reading
pub mod PlanReading
