pub mod Accepted
pub mod Seen
pub mod Tops
pub mod Events
pub mod Bodies
pub mod Dumps
pub mod Ahead
