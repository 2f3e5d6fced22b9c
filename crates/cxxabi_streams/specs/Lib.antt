pub mod Streams
pub mod BytesStreams
