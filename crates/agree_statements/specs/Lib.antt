pub mod Registers
pub mod Tests
pub mod Statements
pub mod Seen
