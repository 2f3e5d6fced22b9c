pub mod LeavesHeld
pub mod TurnDumps
