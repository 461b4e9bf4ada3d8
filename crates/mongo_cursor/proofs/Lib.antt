pub mod Namespaces
pub mod Documents
pub mod Batches
pub mod Calls
pub mod Advancing
pub mod Reading
