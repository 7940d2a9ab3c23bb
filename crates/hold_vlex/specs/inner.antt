pub mod Front
pub mod Lexed
pub mod Found
pub mod Past
