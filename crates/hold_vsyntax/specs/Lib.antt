pub mod Number
pub mod Symbols
pub mod Pieces
pub mod Grammar
pub mod Text
pub mod SyntaxTree
pub mod Named
pub mod inner
