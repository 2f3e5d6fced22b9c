pub mod Paging
pub mod Placing
pub mod Listing
pub mod Putting
pub mod Halving
