pub mod IndexLemmas
pub mod LineLemmas
pub mod RangeLemmas
pub mod PlaceLemmas
pub mod NetRangeLemmas
pub mod UnlikeLemmas
pub mod UseLemmas
pub mod PartLemmas
pub mod OneReading
pub mod NameLists
pub mod LayoutLemmas
pub mod NetlistLemmas
pub mod SoonestLemmas
pub mod PinLemmas
pub mod FaultLemmas
mod BarredLemmas
mod Clashes
mod DeclaredFits
mod DeclaredOnce
mod MentionClashes
mod MentionKinds
mod NamedParts
mod NamesOnce
mod SelectedBits
mod UsedNets
pub mod DesignLemmas
mod RolesEqual
pub mod NumberTableLemmas
pub mod DeclaredWires
pub mod ClearMentions
