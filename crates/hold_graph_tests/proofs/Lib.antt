pub mod CountLemmas
pub mod ZeroLemmas
