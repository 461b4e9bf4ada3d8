pub mod Counts
pub mod OneTask
pub mod FourWords
pub mod LoggingIn
pub mod OnlyMemory
pub mod SmallCommand
