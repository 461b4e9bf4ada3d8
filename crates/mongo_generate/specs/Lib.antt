pub mod Options
pub mod Login
pub mod Replies
pub mod Acceptance
pub mod Written
pub mod Generated
