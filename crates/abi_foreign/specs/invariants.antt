pub mod Pieces
pub mod Reading
pub mod Said
pub mod Rows
pub mod Sums
pub mod Judged
