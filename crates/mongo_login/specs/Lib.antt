pub mod Finish
pub mod Generated
pub mod Input
pub mod Job
pub mod Proxy
pub mod Run
pub mod Words
