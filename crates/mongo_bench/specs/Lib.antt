pub mod Built
pub mod Login
pub mod Task
pub mod Work
