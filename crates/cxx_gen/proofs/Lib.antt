pub mod LinesBelow
