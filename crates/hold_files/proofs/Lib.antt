pub mod ToldLemmas
pub mod Pieces
pub mod Progress
pub mod EntryLemmas
pub mod Additions
