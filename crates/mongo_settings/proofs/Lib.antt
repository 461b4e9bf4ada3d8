mod Elements
mod Frames
mod Grown
mod Json
mod Judgement
mod Mechanisms
mod Twos
mod Parts
mod PlainKeys
mod Sent
mod Spaced
mod Spoken
mod Connecting
mod Ready
pub mod Rehearsing
pub mod OneReport
mod Sharing
mod Shrinking
mod LoginsRead
pub mod Endings
pub mod Outcomes
pub mod RehearsalCosts
