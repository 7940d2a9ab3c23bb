pub mod Both
pub mod Marking
pub mod UseLemmas
