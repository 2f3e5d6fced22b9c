pub mod Tests
pub mod Counts
pub mod Walks
pub mod VirtualFlags
