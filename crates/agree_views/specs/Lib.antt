pub mod Views
pub mod WordLaws
