pub mod BitLemmas
pub mod Lists
