pub mod DumpsHeld
