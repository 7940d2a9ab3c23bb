pub mod Front
pub mod Pieces
pub mod Nesting
pub mod Groups
pub mod Backslashes
pub mod Items
pub mod ItemsRead
pub mod inner
