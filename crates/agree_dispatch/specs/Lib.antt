pub mod Standing
pub mod Words
pub mod Results
pub mod Pointers
pub mod CastStanding
pub mod StandingLaws
pub mod CastLaws
