pub mod Lists
pub mod Classes
pub mod Pieces
pub mod Blanks
pub mod LongestPiece
pub mod Steps
pub mod Unique
pub mod SomeTokens
