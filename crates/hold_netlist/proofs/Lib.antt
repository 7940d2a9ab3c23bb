pub mod NameTableLemmas
pub mod DoubleLemmas
pub mod NumberingLemmas
pub mod PinTextLemmas
pub mod RowLemmas
pub mod LimitLemmas
