pub mod Every
pub mod Reading
pub mod Copying
pub mod RightOps
pub mod StatementOps
