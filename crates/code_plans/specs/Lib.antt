pub mod ClassTables
pub mod Settings
pub mod PlanSites
pub mod Tails
pub mod invariants
