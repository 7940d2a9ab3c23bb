mod RankFacts
mod ArcFacts
mod ListFacts
mod SpanFacts
mod ValidFacts
pub mod PlaceLemmas
pub mod PlaceTables
pub mod ServedLemmas
pub mod UsePlaces
pub mod UseTimes
pub mod TableLemmas
pub mod RegisterNames
