pub mod Batch
pub mod Commands
pub mod Call
pub mod Cursors
pub mod Course
