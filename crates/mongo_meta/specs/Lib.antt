pub mod Keys
pub mod Variables
pub mod Providers
pub mod Metadata
pub mod Client
pub mod Options
