pub mod OffsetWords
pub mod SlotRows
pub mod CodeTables
pub mod RowSites
