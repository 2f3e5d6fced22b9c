pub mod Adjustments
