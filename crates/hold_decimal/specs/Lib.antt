pub mod Numeral
pub mod Rounding
pub mod inner
