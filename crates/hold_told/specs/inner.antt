pub mod Indexed
pub mod Names
pub mod Ports
pub mod Told
