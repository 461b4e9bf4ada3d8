pub mod Connecting
pub mod Input
pub mod Recording
pub mod Run
pub mod Settings
