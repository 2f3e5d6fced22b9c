pub mod SeenDumps
pub mod DumpLaws
