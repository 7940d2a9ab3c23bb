pub mod KeyLemmas
pub mod ConnectionLemmas
pub mod DefaultLemmas
pub mod GivenLemmas
pub mod ListLemmas
pub mod RangeLemmas
pub mod AnswerLemmas
