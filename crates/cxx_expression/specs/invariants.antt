pub mod Known
pub mod Arguments
