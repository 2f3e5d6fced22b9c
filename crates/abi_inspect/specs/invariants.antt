pub mod Digits
pub mod Readable
pub mod FirstLines
pub mod RowReads
pub mod Inspections
