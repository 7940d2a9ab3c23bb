pub mod Numbering
pub mod NameTable
pub mod Seed
