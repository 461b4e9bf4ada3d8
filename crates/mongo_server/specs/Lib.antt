pub mod Acceptance
pub mod Announced
pub mod Authentication
pub mod ClientMessages
pub mod Parsed
pub mod Server
pub mod ServerTexts
pub mod User
