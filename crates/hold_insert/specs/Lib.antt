pub mod NewNames
pub mod Chains
pub mod Padded
pub mod Premises
pub mod inner
