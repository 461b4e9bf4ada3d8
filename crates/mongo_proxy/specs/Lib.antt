pub mod Sides
pub mod RelayedFrames
pub mod Relays
pub mod Stops
pub mod Turn
pub mod Script
