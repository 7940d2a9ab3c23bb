pub mod FrontLemmas
pub mod LexedLemmas
pub mod PastLemmas
pub mod SliceLemmas
pub mod SortLemmas
