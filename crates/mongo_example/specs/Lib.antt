pub mod Example
pub mod Pool
