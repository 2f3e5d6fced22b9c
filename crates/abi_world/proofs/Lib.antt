pub mod AllTables
pub mod Named
pub mod Codes
pub mod Known
pub mod Infos
pub mod Worlds
pub mod ImageWords
