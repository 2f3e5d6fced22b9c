pub mod Alike
pub mod SameTests
pub mod SameValues
pub mod SameCalls
pub mod SamePlans
pub mod SameOps
pub mod SameTurns
