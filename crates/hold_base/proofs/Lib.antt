pub mod Bools
pub mod Options
pub mod Results
pub mod Lists
pub mod Loops
pub mod Bytes
pub mod Digits
pub mod Orders
